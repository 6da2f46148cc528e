-- Who recorded an acceptance at each slot and ballot, as it is counted.
use Rattle.std.specs.Prelude.{◌≡◌, ◌≢◌, ◌↔◌, ◌⊎◌, ◌==◌, ◌&&◌, ◌++◌, ◌<◌, ◌∷◌, [], ℕ, zero, suc}
use Rattle.std.specs.Prelude.{false, Bool, IsTrue, List, Option, Some, None, if◌then◌else◌, slice_get}
use Rattle.std.specs.List.{Contains}
use Rattle.std.specs.List.Sorted.{IsNonDecreasingBy}
use Rattle.std.specs.declared.hash.FoldHasher.{FoldHasher}
use Rattle.std.specs.declared.hash.BuildHasherDefault.{BuildHasherDefault}
use Rattle.indexmap.specs.IndexMap.{IndexMap, get, keys}
use Rattle.ballots.specs.Ballot.{Ballot, is_same_ballot}
use Rattle.ballots.specs.Majority.{contains, IsMajority, members_in}
use Rattle.ballots.specs.Acceptance.{acceptance}
use Rattle.ballots.specs.declared.value.Value.{Value}
use Rattle.ballots.specs.declared.record.Record.{Record}
use Rattle.ballots.specs.declared.message.Message.{Message}
use Rattle.chosen_records.specs.declared.tally.SlotBallot.{SlotBallot}
use Rattle.chosen_records.specs.declared.tally.Tally.{Tally}
use Rattle.chosen_records.specs.declared.fault.ChosenFault.{ChosenFault}
use Rattle.chosen_records.specs.declared.fault.ChosenFault.TheVariants as fault
use Rattle.chosen_records.specs.Chosen.{Records, IsToldChosen, told_of}

abbrev pub Hashing : Type 0
Hashing = BuildHasherDefault FoldHasher

abbrev pub Tallies : Type 0
Tallies = IndexMap SlotBallot Tally Hashing

abbrev pub place_of : ℕ → Ballot → SlotBallot
place_of slot ballot = record { slot = slot; ballot = ballot }

-- whether they are one ballot of one slot
abbrev pub is_same_place : SlotBallot → SlotBallot → Bool
is_same_place a b = a.slot == b.slot && is_same_ballot a.ballot b.ballot

-- what is counted at the place
abbrev pub tally_at : Tallies → SlotBallot → Option Tally
tally_at tallies place = get is_same_place tallies place

-- the node is counted, with this value
abbrev pub IsCounted : Option Tally → ℕ → Value → Type 0
IsCounted None node value = ⊥
IsCounted (Some tally) node value = IsTrue (contains tally.nodes node) × (tally.value ≡ value)

-- a tally has a node
abbrev pub HasNode : Option Tally → Type 0
HasNode None = Unit {0}
HasNode (Some tally) = (node : ℕ) × IsTrue (contains tally.nodes node)

-- a tally stands, with another value
abbrev pub HasOther : Option Tally → Value → Type 0
HasOther None value = ⊥
HasOther (Some tally) value = tally.value ≢ value

-- the tallies have exactly what these records have
pub record IsTallyOf (all : List (List Record)) (tallies : Tallies) : Type 0 where
  pub counts : (node slot : ℕ) (ballot : Ballot) (value : Value)
      → Records all node slot (acceptance ballot value)
      ↔ IsCounted (tally_at tallies (place_of slot ballot)) node value
  pub each : (place : SlotBallot) → HasNode (tally_at tallies place)

-- the node is counted with this value beside those that were
pub record AddsNode (old new : Option Tally) (node : ℕ) (value : Value) : Type 0 where
  pub counts : (other : ℕ) (held : Value)
      → IsCounted new other held ↔ (IsCounted old other held ⊎ ((node ≡ other) × (value ≡ held)))
  pub each : HasNode new

-- so it is at the place, and every other place is as before
pub record CountsNode (old new : Tallies) (node : ℕ) (place : SlotBallot) (value : Value) : Type 0 where
  pub here : AddsNode (tally_at old place) (tally_at new place) node value
  pub others : (other : SlotBallot) → is_same_place place other ≡ false → tally_at new other ≡ tally_at old other

-- the slot is told where a tally stands with another value
abbrev pub TellsOther : Option Tally → ℕ → Value → ChosenFault → Type 0
TellsOther tally slot value (fault.Differ told) = (told ≡ slot) × HasOther tally value
TellsOther tally slot value fault.OutOfMemory = Unit {0}

-- what is told of the node: that it accepted, where it is counted
abbrev pub told_by : ℕ → SlotBallot → Tally → List Message
told_by node place tally =
    if contains tally.nodes node then told_of node place.slot (acceptance place.ballot tally.value) ∷ [] else []

-- what is told of the nodes below this number
abbrev pub told_below : ℕ → SlotBallot → Tally → List Message
told_below zero place tally = []
told_below (suc node) place tally = told_below node place tally ++ told_by node place tally

-- a majority is counted
abbrev pub HasMajority : ℕ → Option Tally → Type 0
HasMajority members None = ⊥
HasMajority members (Some tally) = IsMajority members (members_in members tally.nodes)

-- it tells of a node that is counted in a majority
abbrev pub IsToldOf : ℕ → Tallies → Message → Type 0
IsToldOf members tallies m =
    (ballot : Ballot) × (value : Value) × (m ≡ told_of m.sender m.slot (acceptance ballot value))
    × IsCounted (tally_at tallies (place_of m.slot ballot)) m.sender value
    × HasMajority members (tally_at tallies (place_of m.slot ballot))

-- These messages tell of each slot, of the places before this one, at which a majority is counted, and where they tell
-- of a slot, they tell of a majority.
pub record TellsUpTo (members : ℕ) (tallies : Tallies) (end : ℕ) (told : List Message) : Type 0 where
  pub counted : (m : Message) → Contains told m → IsToldOf members tallies m
  pub whole : (m : Message) → Contains told m → IsToldChosen members told m.slot
  pub chosen : (index : ℕ) (place : SlotBallot) (tally : Tally) → index < end
      → slice_get tallies.entries index ≡ Some (place, tally)
      → IsMajority members (members_in members tally.nodes) → IsToldChosen members told place.slot

-- slots rise with the places
abbrev pub SlotsRise : Tallies → Type 0
SlotsRise tallies = IsNonDecreasingBy (λ place. place.slot) (keys tallies)

-- these messages are of slots of the places before this one, and their slots rise
pub record RisesUpTo (tallies : Tallies) (end : ℕ) (told : List Message) : Type 0 where
  pub rising : IsNonDecreasingBy (λ m. m.slot) told
  pub below : (m : Message) → Contains told m
      → (index : ℕ) × (place : SlotBallot) × (index < end) × (slice_get (keys tallies) index ≡ Some place)
      × (place.slot ≡ m.slot)
