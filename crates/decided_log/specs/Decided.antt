-- The list of decided values, chosen slot by slot: Lamport, "Paxos Made Simple", section 3, where a server may know the
-- commands 1 to 134 and 138 and 139, and executes those before the first gap alone. What is known is a look-up by slot.
use Rattle.std.specs.Prelude.{◌≡◌, ℕ, ◌<◌, List, length, Option, Some, None, slice_get, nat_eq}
use Rattle.std.specs.Option.{option_or}
use Rattle.std.specs.Map.{lookup}
use Rattle.ballots.specs.Slots.{OthersStay}
use Rattle.ballots.specs.declared.value.Value.{Value}

-- the slot has the value, or what it had before; every other slot is as before
pub record Inserts (old new : ℕ → Option Value) (slot : ℕ) (value : Value) : Type 0 where
  pub kept : new slot ≡ option_or (old slot) (Some value)
  pub others : OthersStay old new slot

-- what is known after these inserts, one after the other: for each slot the first value that is inserted for it
abbrev pub Holds : List (ℕ × Value) → (ℕ → Option Value) → Type 0
Holds inserts at = (slot : ℕ) → at slot ≡ lookup (nat_eq slot) inserts

-- every slot is as before
abbrev pub IsSame : (ℕ → Option Value) → (ℕ → Option Value) → Type 0
IsSame old new = (slot : ℕ) → new slot ≡ old slot

-- a value is known for a slot behind this one
abbrev pub IsKnownBehind : (ℕ → Option Value) → ℕ → Type 0
IsKnownBehind at slot = (other : ℕ) × (value : Value) × (slot < other) × (at other ≡ Some value)

-- these are the values at the slots 0, 1, .. up to the first slot that has none
pub record IsPrefix (at : ℕ → Option Value) (values : List Value) : Type 0 where
  pub held : (slot : ℕ) → slot < length values → at slot ≡ slice_get values slot
  pub gap : at (length values) ≡ None
