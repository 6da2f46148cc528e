-- What the two parts of a log keep between calls, and what its steps do to them.
use Rattle.std.specs.Prelude.{◌≡◌, ◌≢◌, ℕ, suc, ◌+◌, ◌≤◌, List, [], ◌∷◌, length, Option, Some, None, nat_eq, slice_get}
use Rattle.std.specs.Option.{option_or}
use Rattle.std.specs.Map.{lookup}
use Rattle.ballots.specs.Limits.{max_slot}
use Rattle.ballots.specs.declared.value.Value.{Value}
use Rattle.decided_log.specs.Decided.{IsSame}
use Rattle.decided_log.specs.LogState.{found}

-- the later values stand at the prefix's end or behind it, and have their places in the prefix's capacity
pub record IsJoinable (prefix : List Value) (later : List (ℕ × Value)) (capacity : ℕ) : Type 0 where
  pub small : length prefix ≤ suc max_slot
  pub behind : (slot : ℕ) (value : Value) → lookup (nat_eq slot) later ≡ Some value
      → (length prefix ≤ slot) × (slot ≤ max_slot)
  pub room : length prefix + length later ≤ capacity

-- and none of them stands at the prefix's end
pub record IsKept (prefix : List Value) (later : List (ℕ × Value)) (capacity : ℕ) : Type 0 where
  pub joinable : IsJoinable prefix later capacity
  pub gap : lookup (nat_eq (length prefix)) later ≡ None

-- the slot's value is gone, and every other slot's is as before
pub record Takes (old new : List (ℕ × Value)) (slot : ℕ) : Type 0 where
  pub gone : lookup (nat_eq slot) new ≡ None
  pub others : (other : ℕ) → other ≢ slot → lookup (nat_eq other) new ≡ lookup (nat_eq other) old

-- values went from the later ones to the prefix, and every slot's value is as before
pub record Joins (prefix prefix-new : List Value) (later later-new : List (ℕ × Value)) : Type 0 where
  pub same : IsSame (found prefix later) (found prefix-new later-new)
  pub count : length prefix-new + length later-new ≡ length prefix + length later

-- the value at the slot, and what stands behind the slot, counted from there
abbrev pub grown_at : List (ℕ × Value) → ℕ → Value → ℕ → Option Value
grown_at later slot value k = option_or (slice_get (value ∷ []) k) (lookup (nat_eq (slot + k)) later)
