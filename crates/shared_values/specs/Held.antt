-- The values that are held, by the slots which accepted them. Which records a node has is Lamport's, "Paxos Made Simple",
-- section 2.5; which of their values are held is this service's own.
use Rattle.std.specs.Prelude.{◌≡◌, ℕ, ◌==◌, if◌then◌else◌, List, [], ◌∷◌, Option, Some, None}
use Rattle.std.specs.Option.{option_or}
use Rattle.std.specs.Ordering.{nat_cmp}
use Rattle.std.specs.BTreeMap.{get}
use Rattle.ballots.specs.declared.record.Record.{Record}
use Rattle.ballots.specs.declared.record.Record.TheVariants.{Began, Promised, Accepted, PromisedFrom}
use Rattle.ballots.specs.declared.value.Value.{Value}
use Rattle.ballots.specs.declared.value.Value.TheVariants.{Noop, Upload}
use Rattle.shared_values.specs.declared.held.HeldValues.{HeldValues}

-- the bytes of an upload, None for a Noop
abbrev pub upload_of : Value → Option (List ℕ)
upload_of Noop = None
upload_of (Upload bytes) = Some bytes

-- the upload that the slot has accepted by this record
abbrev pub upload_at : Record → ℕ → Option (List ℕ)
upload_at (Began ballot) slot = None
upload_at (Promised promised ballot) slot = None
upload_at (Accepted accepted acceptance) slot = if accepted == slot then upload_of acceptance.value else None
upload_at (PromisedFrom first ballot) slot = None

-- the last upload that the slot has accepted by these records
abbrev pub last_upload : List Record → ℕ → Option (List ℕ)
last_upload [] slot = None
last_upload (told ∷ later) slot = option_or (last_upload later slot) (upload_at told slot)

-- the value that is held for the slot
abbrev pub held_at : HeldValues → ℕ → Option (List ℕ)
held_at held slot = get nat_cmp held.values slot

-- each slot has the last upload that it has accepted by these records, and no other is held
abbrev pub HoldsLast : HeldValues → List Record → Type 0
HoldsLast held records = (slot : ℕ) → held_at held slot ≡ last_upload records slot

-- no slot has a value
abbrev pub HoldsNone : HeldValues → Type 0
HoldsNone held = (slot : ℕ) → held_at held slot ≡ None
