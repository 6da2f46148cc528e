-- The parts of an event, each by itself: what is due is planned, what was planned is done behind its record, and a node is opened
-- with the records that its store has. Lamport, "Paxos Made Simple", section 2.5, where a node records what it answers before it does,
-- and has its records when it restarts. How each of them fails is this service's own.
use Rattle.std.specs.Prelude.{◌≡◌, ◌⊎◌, Bool, false, None, Some, IsSome, Result, Ok, Err}
use Rattle.ballots.specs.declared.record.Record.{Record}
use Rattle.stable_records.specs.declared.fault.StoreFault.{StoreFault}
use Rattle.agreement_rules.specs.Views.{Views, started_with}
use Rattle.agreement_rules.specs.Due.{Plan, Plans}
use Rattle.histories.specs.Due.{Input, IsDue, InputKeeps}
use Rattle.histories.specs.Following.{UpOrDown, with_due}
use Rattle.agreement.specs.declared.refusal.Refusal.{Refusal}
use Rattle.agreement.specs.declared.refusal.Refusal.TheVariants as refusal
use Rattle.node_core.specs.State.{NodeState}
use Rattle.node_core.specs.declared.plan.Planned.{Planned}
use Rattle.node_core.specs.Plans.{CanCommit, IsPlanned, IsRefused, kept_by, sent_by}
use Rattle.node_events.specs.declared.event_result.Reason.{Reason}
use Rattle.node_events.specs.declared.event_result.Reason.TheVariants.{OutOfRange, SlotsSpent, RoundsSpent, OutOfMemory, Down, NotSent}
use Rattle.stored_nodes.specs.declared.fault.StoredNodeFault.{StoredNodeFault}
use Rattle.stored_nodes.specs.State.{StoredNodeState, IsPlaced, Stands, StandsUp}

-- ---- what is planned

-- the node is up with these views, the plan is what is due to the input, and it can be committed as the node is
pub record IsPlannedFor {S : Type 0} (state : StoredNodeState S) (views : Views) (input : Input) (planned : Planned) : Type 0 where
  pub up : StandsUp state views
  pub can : CanCommit up.node planned
  pub is : IsPlanned up.node views input planned

-- the reason that tells a refusal
abbrev pub reason_telling : Refusal → Reason
reason_telling refusal.OutOfRange = OutOfRange
reason_telling refusal.SlotsSpent = SlotsSpent
reason_telling refusal.RoundsSpent = RoundsSpent
reason_telling refusal.OutOfMemory = OutOfMemory

-- the node is up, and refuses the input, whatever views it stands by
abbrev pub RefusesAs : {S : Type 0} → StoredNodeState S → Input → Refusal → Type 0
RefusesAs state input why = IsSome state.node × ((views : Views) (up : StandsUp state views) → IsRefused up.node views input why)

-- The node is up, and this is planned; or it refuses the input; or it is down.
abbrev pub PlanAnswers : {S : Type 0} → (old new : StoredNodeState S) → Input → Result Planned Reason → Type 0
PlanAnswers old new input (Ok planned) =
    IsSome old.node × ((views : Views) → StandsUp old views → IsPlannedFor new views input planned)
PlanAnswers old new input (Err OutOfRange) = RefusesAs old input refusal.OutOfRange
PlanAnswers old new input (Err SlotsSpent) = RefusesAs old input refusal.SlotsSpent
PlanAnswers old new input (Err RoundsSpent) = RefusesAs old input refusal.RoundsSpent
PlanAnswers old new input (Err OutOfMemory) = RefusesAs old input refusal.OutOfMemory
PlanAnswers old new input (Err Down) = old.node ≡ None
PlanAnswers old new input (Err NotSent) = ⊥

-- it stands as it stood, with the same store and the same records, whatever room its node has made
pub record StandsStill {S : Type 0} (old new : StoredNodeState S) : Type 0 where
  pub stands : (seat : UpOrDown) → Stands old seat → Stands new seat
  pub down : old.node ≡ None → new.node ≡ None
  pub placed : IsPlaced old → IsPlaced new
  pub me_is : new.me ≡ old.me
  pub config_is : new.config ≡ old.config
  pub store_is : new.store ≡ old.store
  pub records_are : new.records ≡ old.records
  pub doubted_is : new.doubted ≡ old.doubted

-- ---- what is done

-- the node is up, and can commit the plan
abbrev pub IsUpFor : {S : Type 0} → StoredNodeState S → Planned → Type 0
IsUpFor state planned = (node : NodeState) × (state.node ≡ Some node) × CanCommit node planned

-- the record is kept, if the plan has one, and the node stands where the plan leads
pub record IsDoneFor {S : Type 0} (old new : StoredNodeState S) (views : Views) (input : Input) (planned : Planned) : Type 0 where
  pub plan : Plan
  pub due : IsDue old.config old.me views input (Plans plan)
  pub sends : plan.sends ≡ sent_by planned
  pub stands : StandsUp new plan.after
  pub placed : IsPlaced new
  pub me_is : new.me ≡ old.me
  pub config_is : new.config ≡ old.config

-- the plan's record is not kept, or in doubt, and the node is down
pub record IsBrokenOff {S : Type 0} (old new : StoredNodeState S) (views : Views) (input : Input) (planned : Planned) : Type 0 where
  pub last : Record
  pub last_is : kept_by planned ≡ Some last
  pub keeps : InputKeeps old.config old.me views input (Some last)
  pub down : new.node ≡ None
  pub kept : new.records ≡ views.records
  pub doubt : (new.doubted ≡ None) ⊎ (new.doubted ≡ Some last)
  pub placed : IsPlaced new
  pub me_is : new.me ≡ old.me
  pub config_is : new.config ≡ old.config

abbrev pub PlanTaken : {S T : Type 0} → (old new : StoredNodeState S) → Views → Input → Planned → Result T StoreFault → Type 0
PlanTaken old new views input planned (Ok _) = IsDoneFor old new views input planned
PlanTaken old new views input planned (Err why) = IsBrokenOff old new views input planned

-- ---- a node that is opened again

-- The node is opened with the records that were kept, and with the one that was in doubt behind them where it was recovered. None is
-- in doubt then.
pub record IsRecovered {S : Type 0} (old new : StoredNodeState S) (recovered : Bool) : Type 0 where
  pub stands : StandsUp new (started_with (with_due recovered old.records old.doubted))
  pub none_in_doubt : old.doubted ≡ None → recovered ≡ false
  pub placed : IsPlaced new
  pub me_is : new.me ≡ old.me
  pub config_is : new.config ≡ old.config

-- nothing changed but the store
pub record IsUnchanged {S : Type 0} (old new : StoredNodeState S) : Type 0 where
  pub stands : (seat : UpOrDown) → Stands old seat → Stands new seat
  pub placed : IsPlaced old → IsPlaced new
  pub node_is : new.node ≡ old.node
  pub me_is : new.me ≡ old.me
  pub config_is : new.config ≡ old.config
  pub records_are : new.records ≡ old.records
  pub doubted_is : new.doubted ≡ old.doubted

abbrev pub RecoverGives : {S : Type 0} → (old new : StoredNodeState S) → Result Bool StoredNodeFault → Type 0
RecoverGives old new (Ok recovered) = IsRecovered old new recovered
RecoverGives old new (Err why) = IsUnchanged old new
