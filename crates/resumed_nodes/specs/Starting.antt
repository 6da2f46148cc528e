-- All nodes of a cluster that start again, each over the records that it kept, and hear again what these say was chosen:
-- Lamport, "Paxos Made Simple", sections 2.3 and 2.5. How a start fails is this service's own.
use Rattle.std.specs.Prelude.{◌≡◌, ℕ, ◌<◌, ◌≤◌, Bool, IsTrue, Some, List, [], ◌∷◌, ◌++◌, length, map, slice_get, slice_index_or}
use Rattle.std.specs.List.{All}
use Rattle.ballots.specs.declared.record.Record.{Record}
use Rattle.ballots.specs.declared.record.Record.TheVariants.{Began, Promised, Accepted, PromisedFrom}
use Rattle.ballots.specs.declared.message.Message.{Message}
use Rattle.agreement_rules.specs.Views.{AgreementConfig, started_with}
use Rattle.agreement_rules.specs.Due.{IsMessageOf}
use Rattle.histories.specs.History.{History}
use Rattle.histories.specs.Following.{UpOrDown, recovered_in, at_first}
use Rattle.joined_histories.specs.Joined.{Precedes}
use Rattle.cut_histories.specs.Settling.{of_clients}
use Rattle.resumed_histories.specs.StartingOver.{TellsOfAValue, Hears}
use Rattle.stable_records.specs.Found.{Found}
use Rattle.stable_records.specs.declared.fault.StoreFault.{StoreFault}
use Rattle.node_core.specs.State.{CanStart}
use Rattle.node_core.specs.declared.reopening.OpenFault.{OpenFault}
use Rattle.node_core.specs.declared.reopening.OpenFault.TheVariants as opening
use Rattle.stored_nodes.specs.State.{StoredNodeState, IsPlaced, StandsUp}
use Rattle.resumed_nodes.specs.Heard.{heard, starts_of}
use Rattle.resumed_nodes.specs.declared.fault.ReopenFault.{ReopenFault}
use Rattle.resumed_nodes.specs.declared.fault.ReopenFault.TheVariants as fault

-- ---- nodes that have started

-- The node of this number is up with the records that it kept, and has heard these messages by its rules.
pub record IsStarted {S : Type 0} (config : AgreementConfig) (told : List Message) (number : ℕ) (node : StoredNodeState S) : Type 0 where
  pub me_is : node.me ≡ number
  pub config_is : node.config ≡ config
  pub placed : IsPlaced node
  pub stands : StandsUp node (heard node.records told)
  pub hears : Hears config number (started_with node.records) told (heard node.records told)

-- each at the place of its number
abbrev pub AreStarted : {S : Type 0} → AgreementConfig → List Message → List (StoredNodeState S) → Type 0
AreStarted config told nodes =
    (number : ℕ) (d : StoredNodeState _) → number < length nodes → IsStarted config told number (slice_index_or nodes number d)

-- the node that was there has heard the messages, and has the records that it had
abbrev pub HasHeardAgain : {S : Type 0} → AgreementConfig → List Message → (old new : StoredNodeState S) → Type 0
HasHeardAgain config told old new = IsStarted config told old.me new × (new.records ≡ old.records)

-- the records of each
abbrev pub records_at_nodes : {S : Type 0} → List (StoredNodeState S) → List (List Record)
records_at_nodes nodes = map (λ node. node.records) nodes

-- a node may be told it: it tells of a value, and names members and slots of the configuration
abbrev pub MayBeTold : AgreementConfig → Message → Type 0
MayBeTold config m = TellsOfAValue m.body × IsMessageOf config m

-- ---- one node more

-- a ballot that a node began is its own (section 2.2)
abbrev pub IsOwn : ℕ → Record → Type 0
IsOwn me (Began ballot) = ballot.node ≡ me
IsOwn me (Promised slot ballot) = Unit {0}
IsOwn me (Accepted slot acceptance) = Unit {0}
IsOwn me (PromisedFrom first ballot) = Unit {0}

abbrev pub AreOwn : ℕ → List Record → Type 0
AreOwn me records = All (IsOwn me) records

-- one node stands behind the others, with the records that its store gave back, whose ballots are its own
pub record AddsNode {S : Type 0} (tells : Bool) (finds : Found → Type 0) (me : ℕ) (old new : List (StoredNodeState S)) : Type 0
  where
    pub node : StoredNodeState S
    pub behind : new ≡ old ++ node ∷ []
    pub found : IsTrue tells → finds (Some node.records)
    pub own : AreOwn me node.records

-- The store failed to give records back, as it may; or those that it gave name a node that is none or a slot that there
-- is not; or another node began a ballot of theirs; or memory was refused.
abbrev pub ReopenFails : (tells : Bool) → AgreementConfig → ℕ → (finds : Found → Type 0) → (StoreFault → Type 0) → ReopenFault
    → Type 0
ReopenFails tells config me finds MayFail (fault.Store why) = MayFail why
ReopenFails tells config me finds MayFail fault.OutOfRange =
    (records : List Record) × (IsTrue tells → finds (Some records)) × (CanStart config me records → ⊥)
ReopenFails tells config me finds MayFail fault.AnotherNode =
    (records : List Record) × (IsTrue tells → finds (Some records)) × (AreOwn me records → ⊥)
ReopenFails tells config me finds MayFail fault.OutOfMemory = Unit {0}

-- why a node was not opened over its store, as such a fault
abbrev pub IsReopenFaultFor : OpenFault → ReopenFault → Type 0
IsReopenFaultFor (opening.Store why) told = told ≡ fault.Store why
IsReopenFaultFor opening.OutOfRange told = told ≡ fault.OutOfRange
IsReopenFaultFor opening.OutOfMemory told = told ≡ fault.OutOfMemory

-- ---- what goes before

-- These are the records with which the nodes start again that a history left so, where `found` says of each that was
-- down whether the record is among them that was due where it went down.
abbrev pub HaveBack : (left : ℕ → UpOrDown) → (found : ℕ → Bool) → List (List Record) → Type 0
HaveBack left found all =
    (number : ℕ) (records : List Record) → slice_get all number ≡ Some records
    → records ≡ recovered_in (found number) (left number)

-- Whatever history left the nodes with these records, some history precedes nodes that start with them and have heard
-- these messages, in which clients did the same and were answered the same.
abbrev pub GoesOn : AgreementConfig → List (List Record) → List Message → Type 0
GoesOn config all told =
    (left : ℕ → UpOrDown) (before : History) (found : ℕ → Bool) → Precedes config left before → HaveBack left found all
    → (whole : History) × Precedes config (λ node. slice_index_or (starts_of all told) node (at_first node)) whole
    × (of_clients whole.steps ≡ of_clients before.steps)
