-- What a node holds, and how it stands for what decides what the node does: Lamport, "Paxos Made Simple", sections 2.5 and 3.
-- That uploads wait and make tables is this service's own.
use Rattle.std.specs.Prelude.{◌≡◌, ℕ, ◌<◌, List, Result, Ok, Err}
use Rattle.std.specs.List.{AllByRecursion}
use Rattle.ballots.specs.declared.value.Value.{Value}
use Rattle.ballots.specs.declared.record.Record.{Record}
use Rattle.ballots.specs.declared.record.Record.TheVariants.{Began, Promised, Accepted, PromisedFrom}
use Rattle.agreement.specs.State.{AgreementState, Has}
use Rattle.agreement.specs.declared.refusal.Refusal.{Refusal}
use Rattle.agreement.specs.declared.refusal.Refusal.TheVariants.{OutOfRange, SlotsSpent, RoundsSpent, OutOfMemory}
use Rattle.agreement_rules.specs.Views.{AgreementConfig, Views, started_with, HasPrefix}
use Rattle.histories.specs.Due.{AreStillWaiting}
use Rattle.table_versions.specs.State.{TablesState, HasTaken}
use Rattle.pending_uploads.specs.Waiting.{Waiting}

pub record NodeState : Type 0 where
  pub agreement : AgreementState
  pub tables : TablesState
  pub waiting : Waiting

-- It stands where these views leave it: its part in agreement does, its tables hold what the values of its prefix make, and
-- those uploads wait, of which the tables tell nothing.
pub record NodeHas (state : NodeState) (views : Views) : Type 0 where
  pub agrees : Has state.agreement views
  pub values : List Value
  pub prefix : HasPrefix state.agreement.config.members views.learner_calls values
  pub taken : HasTaken state.tables values
  pub waits : state.waiting.texts ≡ views.waiting
  pub unknown : AreStillWaiting taken.uploads views.waiting views.waiting

-- whatever it stood by, it stands by
abbrev pub StandsAsBefore : NodeState → NodeState → Type 0
StandsAsBefore old new = (views : Views) → NodeHas old views → NodeHas new views

-- ---- how a node starts

-- every node and slot that it names is of the configuration
abbrev pub IsRecordOf : AgreementConfig → Record → Type 0
IsRecordOf config (Began ballot) = ballot.node < config.members
IsRecordOf config (Promised slot ballot) = (slot < config.slot_limit) × (ballot.node < config.members)
IsRecordOf config (Accepted slot acceptance) = (slot < config.slot_limit) × (acceptance.ballot.node < config.members)
IsRecordOf config (PromisedFrom first ballot) = (first < config.slot_limit) × (ballot.node < config.members)

-- the node is a member, and its records are of the configuration
pub record CanStart (config : AgreementConfig) (me : ℕ) (records : List Record) : Type 0 where
  pub member : me < config.members
  pub records_are : AllByRecursion (IsRecordOf config) records

pub record Starts (config : AgreementConfig) (me : ℕ) (records : List Record) (state : NodeState) : Type 0 where
  pub can : CanStart config me records
  pub me_is : state.agreement.me ≡ me
  pub config_is : state.agreement.config ≡ config
  pub has : NodeHas state (started_with records)

-- what a start gives, memory apart
abbrev pub OpenGives : AgreementConfig → ℕ → List Record → Result NodeState Refusal → Type 0
OpenGives config me records (Ok state) = Starts config me records state
OpenGives config me records (Err OutOfRange) = CanStart config me records → ⊥
OpenGives config me records (Err SlotsSpent) = ⊥
OpenGives config me records (Err RoundsSpent) = ⊥
OpenGives config me records (Err OutOfMemory) = CanStart config me records
