-- What a log holds, and the look-up by which contracts see it.
use Rattle.std.specs.Prelude.{ℕ, ◌+◌, ◌-◌, List, length, Option, min, nat_eq, slice_get}
use Rattle.std.specs.Option.{option_or}
use Rattle.std.specs.Map.{lookup}
use Rattle.ballots.specs.declared.value.Value.{Value}

-- the node, the values up to the first gap, those behind it with their slots, and how many inserts fit without memory
pub record LogState : Type 0 where
  pub node : ℕ
  pub prefix : List Value
  pub later : List (ℕ × Value)
  pub room : ℕ

-- the value of a slot, in these two parts
abbrev pub found : List Value → List (ℕ × Value) → ℕ → Option Value
found prefix later slot = option_or (slice_get prefix slot) (lookup (nat_eq slot) later)

-- the value of a slot
abbrev pub decided_at : LogState → ℕ → Option Value
decided_at log slot = found log.prefix log.later slot

-- the inserts that fit, whatever their slots: each takes a place in the list or one in the map, and each value of the
-- map may have to go to the list, so its place there is kept free
abbrev pub room_of : List Value → List (ℕ × Value) → ℕ → ℕ → ℕ
room_of prefix later capacity spare = min (capacity - (length prefix + length later)) spare
