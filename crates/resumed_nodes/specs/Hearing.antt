-- What becomes of a node that is handed a message again which tells of a value: Lamport, "Paxos Made Simple", sections
-- 2.3 and 2.5. How this fails is this service's own.
use Rattle.std.specs.Prelude.{◌≡◌, None, IsSome, List, [], ◌∷◌, Result, Ok, Err}
use Rattle.std.specs.List.{Contains}
use Rattle.ballots.specs.declared.record.Record.{Record}
use Rattle.ballots.specs.declared.message.Message.{Message}
use Rattle.agreement_rules.specs.Views.{Views, started_with}
use Rattle.agreement_rules.specs.Due.{IsMessageOf}
use Rattle.resumed_histories.specs.StartingOver.{TellsOfAValue, Hears}
use Rattle.node_events.specs.declared.event_result.Reason.{Reason}
use Rattle.node_events.specs.declared.event_result.Reason.TheVariants as reason
use Rattle.stored_nodes.specs.State.{StoredNodeState, IsPlaced, StandsUp}
use Rattle.stored_nodes.specs.Parts.{StandsStill}
use Rattle.resumed_nodes.specs.Heard.{heard}
use Rattle.resumed_nodes.specs.declared.fault.HearFault.{HearFault}
use Rattle.resumed_nodes.specs.declared.fault.HearFault.TheVariants.{NoValue, OutOfRange, OutOfMemory, Down, Store}

-- It heard these messages, stands as they leave it, and has the records that it had.
pub record HasHeard {S : Type 0} (old new : StoredNodeState S) (views : Views) (told : List Message) (after : Views)
    : Type 0 where
  pub hears : Hears old.config old.me views told after
  pub stands : StandsUp new after
  pub placed : IsPlaced new
  pub me_is : new.me ≡ old.me
  pub config_is : new.config ≡ old.config
  pub records_are : new.records ≡ old.records

-- ---- one message

-- Of a node that stands up so: it heard the message; or the message tells of no value; or it does, and names a node
-- that is none or a slot that there is not; or memory was refused. A node that is up is not down, and no store fails
-- that keeps nothing.
abbrev pub HearAnswers : {S T : Type 0} → (old new : StoredNodeState S) → Views → Message → Result T HearFault → Type 0
HearAnswers old new views m (Ok _) = (after : Views) × HasHeard old new views (m ∷ []) after
HearAnswers old new views m (Err NoValue) = TellsOfAValue m.body → ⊥
HearAnswers old new views m (Err OutOfRange) = TellsOfAValue m.body × (IsMessageOf old.config m → ⊥)
HearAnswers old new views m (Err OutOfMemory) = TellsOfAValue m.body
HearAnswers old new views m (Err Down) = ⊥
HearAnswers old new views m (Err (Store why)) = ⊥

-- Of any node: one that is down hears nothing, and it alone is told to be down. A fault leaves it as it stood.
abbrev pub HearLeaves : {S T : Type 0} → (old new : StoredNodeState S) → Result T HearFault → Type 0
HearLeaves old new (Ok _) = IsSome old.node
HearLeaves old new (Err NoValue) = StandsStill old new
HearLeaves old new (Err OutOfRange) = StandsStill old new
HearLeaves old new (Err OutOfMemory) = StandsStill old new
HearLeaves old new (Err Down) = (old.node ≡ None) × StandsStill old new
HearLeaves old new (Err (Store why)) = Unit {0}

-- why nothing is planned for a message, as such a fault
abbrev pub IsHearFaultFor : Reason → HearFault → Type 0
IsHearFaultFor reason.OutOfRange fault = fault ≡ OutOfRange
IsHearFaultFor reason.SlotsSpent fault = fault ≡ OutOfRange
IsHearFaultFor reason.RoundsSpent fault = fault ≡ OutOfRange
IsHearFaultFor reason.OutOfMemory fault = fault ≡ OutOfMemory
IsHearFaultFor reason.Down fault = fault ≡ Down
IsHearFaultFor reason.NotSent fault = fault ≡ OutOfRange

-- ---- all messages

-- Of a node that was started with these records: it heard all messages, one after the other; or one of them tells of no
-- value, or names a node that is none or a slot that there is not; or memory was refused.
abbrev pub HearAllAnswers : {S T : Type 0} → (old new : StoredNodeState S) → List Record → List Message → Result T HearFault
    → Type 0
HearAllAnswers old new records told (Ok _) = HasHeard old new (started_with records) told (heard records told)
HearAllAnswers old new records told (Err NoValue) = (m : Message) × Contains told m × (TellsOfAValue m.body → ⊥)
HearAllAnswers old new records told (Err OutOfRange) = (m : Message) × Contains told m × (IsMessageOf old.config m → ⊥)
HearAllAnswers old new records told (Err OutOfMemory) = Unit {0}
HearAllAnswers old new records told (Err Down) = ⊥
HearAllAnswers old new records told (Err (Store why)) = ⊥
