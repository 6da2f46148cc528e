-- What the records of all nodes say was chosen: Lamport, "Paxos Made Simple", sections 2.2 and 2.5. A value is chosen
-- where a majority accepted it at one ballot, and each acceptance is recorded before it is told.
use Rattle.std.specs.Prelude.{◌≡◌, ◌≢◌, ℕ, Some, List, slice_get}
use Rattle.std.specs.List.{Contains}
use Rattle.ballots.specs.Ballot.{Ballot}
use Rattle.ballots.specs.Acceptance.{acceptance}
use Rattle.ballots.specs.declared.acceptance.Acceptance.{Acceptance}
use Rattle.ballots.specs.declared.value.Value.{Value}
use Rattle.ballots.specs.declared.record.Record.{Record}
use Rattle.ballots.specs.declared.record.Record.TheVariants.{Accepted as HasAccepted}
use Rattle.ballots.specs.declared.message.Message.{Message}
use Rattle.ballots.specs.declared.message.Body.TheVariants.{Accepted}
use Rattle.lawful_histories.specs.Majorities.{MajorityOf}
use Rattle.chosen_records.specs.declared.fault.ChosenFault.{ChosenFault}
use Rattle.chosen_records.specs.declared.fault.ChosenFault.TheVariants as fault

-- among the records of all nodes, each node's at its number, this node's have this acceptance of the slot
abbrev pub Records : List (List Record) → ℕ → ℕ → Acceptance → Type 0
Records all node slot accepted =
    (own : List Record) × (slice_get all node ≡ Some own) × Contains own (HasAccepted slot accepted)

-- the message by which a node told it
abbrev pub told_of : ℕ → ℕ → Acceptance → Message
told_of node slot accepted = record { sender = node; slot = slot; body = Accepted accepted }

-- it tells of a recorded acceptance
abbrev pub IsRecorded : List (List Record) → Message → Type 0
IsRecorded all m = (accepted : Acceptance) × (m ≡ told_of m.sender m.slot accepted) × Records all m.sender m.slot accepted

-- a majority has recorded that it accepted this value at this ballot
abbrev pub IsChosenAt : ℕ → List (List Record) → ℕ → Ballot → Value → Type 0
IsChosenAt members all slot ballot value = MajorityOf members (λ node. Records all node slot (acceptance ballot value))

-- it tells of a value that a majority has recorded at this ballot
abbrev pub TellsChosen : ℕ → List (List Record) → Message → Type 0
TellsChosen members all m =
    (ballot : Ballot) × (value : Value) × (m ≡ told_of m.sender m.slot (acceptance ballot value))
    × IsChosenAt members all m.slot ballot value

-- these messages tell so of the slot, at some ballot
abbrev pub IsToldChosen : ℕ → List Message → ℕ → Type 0
IsToldChosen members told slot =
    (ballot : Ballot) × (value : Value)
    × MajorityOf members (λ node. Contains told (told_of node slot (acceptance ballot value)))

-- two values are recorded at one ballot of one slot, by two nodes or by one, which no run of correct nodes does
pub record Differ (all : List (List Record)) (slot : ℕ) : Type 0 where
  pub ballot : Ballot
  pub one : ℕ
  pub other : ℕ
  pub value : Value
  pub another : Value
  pub has_one : Records all one slot (acceptance ballot value)
  pub has_other : Records all other slot (acceptance ballot another)
  pub differ : value ≢ another

-- a slot is told only where two values are recorded at one of its ballots
abbrev pub TellsDiffer : List (List Record) → ChosenFault → Type 0
TellsDiffer all (fault.Differ slot) = Differ all slot
TellsDiffer all fault.OutOfMemory = Unit {0}
