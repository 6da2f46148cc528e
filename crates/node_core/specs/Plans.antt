-- What a plan keeps and sends, where it leads a node, and when it is what is due.
use Rattle.std.specs.Prelude.{◌≡◌, ℕ, ◌<◌, ◌≤◌, ◌⊎◌, max, Bool, true, false, Option, None, Some, IsSome, List, [], Result, Ok, Err}
use Rattle.ballots.specs.Limits.{max_round}
use Rattle.ballots.specs.declared.record.Record.{Record}
use Rattle.ballots.specs.declared.message.Message.{Message}
use Rattle.table_types.specs.Uploads.{Upload}
use Rattle.agreement.specs.declared.refusal.Refusal.{Refusal}
use Rattle.agreement.specs.declared.refusal.Refusal.TheVariants.{OutOfRange, SlotsSpent, RoundsSpent, OutOfMemory}
use Rattle.agreement.specs.declared.step.AgreementStep.{AgreementStep as Step}
use Rattle.agreement.specs.State.{AgreementState}
use Rattle.agreement.specs.Step.{kept_of, learner_calls_with, left_by, plan_of, Grows}
use Rattle.agreement.specs.Step as step
use Rattle.agreement_rules.specs.Views.{AgreementConfig, Views, with_waiting, IsFreeAfter}
use Rattle.histories.specs.Texts.{HasUploads}
use Rattle.agreement_rules.specs.Due.{Plan, Plans, Refuses, IsMessageOf}
use Rattle.histories.specs.Due.{Input, Put, Tick, Deliver, IsDue, AreStillWaiting, waits_too, Waits as WaitsAlready, IsKnown, IsUnknown}
use Rattle.table_versions.specs.State.{IsReadyFor}
use Rattle.table_versions.specs.State as tables
use Rattle.node_core.specs.declared.plan.Planned.{Planned}
use Rattle.node_core.specs.declared.plan.Planned.TheVariants.{Stays, Waits, Steps, Learns}
use Rattle.node_core.specs.State.{NodeState, NodeHas}
use Rattle.node_core.specs.Inputs.{refusal_of}

-- ---- what a plan keeps and sends

-- the record that is kept before it is committed
abbrev pub kept_by : Planned → Option Record
kept_by Stays = None
kept_by (Waits upload) = None
kept_by (Steps taken) = kept_of taken.change
kept_by (Learns taken ready) = kept_of taken.change

-- the messages that go out after it is committed
abbrev pub sent_by : Planned → List Message
sent_by Stays = []
sent_by (Waits upload) = []
sent_by (Steps taken) = taken.sends.items
sent_by (Learns taken ready) = taken.sends.items

-- ---- where it leads

-- An upload waits, of which nothing is known. A step leads where it leaves the node, and the prefix grows by what the step
-- tells; where it grows, the uploads of which something is then known wait no more.
abbrev pub LeadsTo : AgreementConfig → Views → Planned → Views → Type 0
LeadsTo config views Stays after = after ≡ views
LeadsTo config views (Waits upload) after = IsUnknown config views.learner_calls upload × (after ≡ waits_too views upload)
LeadsTo config views (Steps taken) after =
    Grows config.members views.learner_calls (learner_calls_with views taken.change) []
    × (after ≡ left_by views taken.seen_round taken.change)
LeadsTo config views (Learns taken ready) after =
    Grows config.members views.learner_calls (learner_calls_with views taken.change) taken.grown.items
    × ((uploads : List Upload) × (left : List (List ℕ))
    × HasUploads config.members (learner_calls_with views taken.change) uploads
    × AreStillWaiting uploads views.waiting left
    × (after ≡ with_waiting (left_by views taken.seen_round taken.change) left))

-- ---- when it can be committed without memory

pub record CanGrow (state : NodeState) (taken : Step) (ready : tables.ReadyState) : Type 0 where
  pub steps : step.CanTake state.agreement taken.change
  pub takes : tables.CanTake state.tables ready
  pub is_ready : IsReadyFor ready taken.grown.items

-- all room was made
abbrev pub HasRoom : NodeState → Planned → Type 0
HasRoom state Stays = Unit {0}
HasRoom state (Waits upload) = 0 < state.waiting.room
HasRoom state (Steps taken) = step.CanTake state.agreement taken.change
HasRoom state (Learns taken ready) = CanGrow state taken ready

-- and the plan is one of this node
pub record CanCommit (state : NodeState) (planned : Planned) : Type 0 where
  pub room : HasRoom state planned
  pub views : Views
  pub has : NodeHas state views
  pub after : Views
  pub leads : LeadsTo state.agreement.config views planned after

-- ---- when it is due

-- what is due has this record and these messages, and the plan leads where it does
pub record IsPlanned (state : NodeState) (views : Views) (input : Input) (planned : Planned) : Type 0 where
  pub plan : Plan
  pub due : IsDue state.agreement.config state.agreement.me views input (Plans plan)
  pub kept : plan.kept ≡ kept_by planned
  pub sends : plan.sends ≡ sent_by planned
  pub leads : LeadsTo state.agreement.config views planned plan.after

-- no refusal is due: a message is of the configuration, and else there is a plan
abbrev pub IsTaken : AgreementConfig → ℕ → Views → Input → Type 0
IsTaken config me views (Put text) = (plan : Plan) × IsDue config me views (Put text) (Plans plan)
IsTaken config me views (Tick left) = (plan : Plan) × IsDue config me views (Tick left) (Plans plan)
IsTaken config me views (Deliver message) = IsMessageOf config message

-- a refusal is due, and memory is wanted only where none is
abbrev pub IsRefused : NodeState → Views → Input → Refusal → Type 0
IsRefused state views input OutOfMemory = IsTaken state.agreement.config state.agreement.me views input
IsRefused state views input OutOfRange =
    IsDue state.agreement.config state.agreement.me views input (Refuses (refusal_of OutOfRange))
IsRefused state views input SlotsSpent =
    IsDue state.agreement.config state.agreement.me views input (Refuses (refusal_of SlotsSpent))
IsRefused state views input RoundsSpent =
    IsDue state.agreement.config state.agreement.me views input (Refuses (refusal_of RoundsSpent))

-- what is due to an input, memory apart, whatever views the node stands by
abbrev pub PlanGives : NodeState → Input → Result Planned Refusal → Type 0
PlanGives state input (Ok planned) = (views : Views) → NodeHas state views → IsPlanned state views input planned
PlanGives state input (Err refusal) = (views : Views) → NodeHas state views → IsRefused state views input refusal

-- ---- a put

-- the refusal that is due to an upload, or none is and there is a plan
abbrev pub JudgesPut : NodeState → Views → List ℕ → Option Refusal → Type 0
JudgesPut state views text None = IsTaken state.agreement.config state.agreement.me views (Put text)
JudgesPut state views text (Some refusal) =
    IsDue state.agreement.config state.agreement.me views (Put text) (Refuses (refusal_of refusal))

-- an upload waits already, or something is known of it; or neither
abbrev pub TellsKnown : AgreementConfig → Views → List ℕ → Bool → Type 0
TellsKnown config views text true = WaitsAlready views text ⊎ IsKnown config views.learner_calls text
TellsKnown config views text false = (WaitsAlready views text → ⊥) × IsUnknown config views.learner_calls text

-- ---- a tick

-- what is due to a tick of this step or refusal, memory apart, whatever views the node stands by
abbrev pub TickGives : NodeState → ℕ → Result Step Refusal → Type 0
TickGives state left (Ok taken) =
    (views : Views) → NodeHas state views
    → IsDue state.agreement.config state.agreement.me views (Tick left) (Plans (plan_of views taken))
TickGives state left (Err refusal) = (views : Views) → NodeHas state views → IsRefused state views (Tick left) refusal

-- a round is left for another attempt
abbrev pub HasRoundLeft : AgreementState → Type 0
HasRoundLeft state = max state.seen_round state.proposer.highest_round < max_round

-- an attempt is refused without memory: there is no slot for it, or there is one, and no round is left
abbrev pub CannotBegin : AgreementState → Option ℕ → Refusal → Type 0
CannotBegin state slot refusal =
    ((refusal ≡ SlotsSpent) × (slot ≡ None))
    ⊎ ((refusal ≡ RoundsSpent) × IsSome slot × (HasRoundLeft state → ⊥))

-- ---- the slot of an attempt

-- the slot that leaves so many free ones below it to others; there is none below the limit where that one is not
abbrev pub IsSlotLeft : AgreementConfig → Views → ℕ → Option ℕ → Type 0
IsSlotLeft config views left (Some slot) = (slot < config.slot_limit) × IsFreeAfter config.members views.learner_calls left slot
IsSlotLeft config views left None =
    (slot : ℕ) × (config.slot_limit ≤ slot) × IsFreeAfter config.members views.learner_calls left slot
