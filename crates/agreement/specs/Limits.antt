-- The limit of what nodes may agree on before they start, as a number. It is this service's own, and the program has a
-- constant of the same name.
use Rattle.std.specs.Prelude.{ℕ, ◌≤◌}

-- the most slots that nodes may agree on
abbrev pub max_slots : ℕ
max_slots = 1000000

abbrev pub IsSlotLimit : ℕ → Type 0
IsSlotLimit slots = (1 ≤ slots) × (slots ≤ max_slots)
