use Rattle.std.proofs.Common.{ℕ, ◌≡◌, ◌<◌, length}
use Rattle.std.specs.List.{range_with_len}
use Rattle.std.specs.Str.{IsUtf8}
use Rattle.batch_types.specs.Placed.{value_bytes}
use Rattle.batch_checking.specs.Around.{Holds, IsValidAt, places_around}
use Rattle.batch_checking.proofs.texts.are_fine.Given as goal

abbrev pub invariant-loop-row : goal.invariant-loop-row
invariant-loop-row l =
    (length l.guesses ≡ 16)
    × ((row : ℕ) → row < l.row → Holds (places_around (range_with_len 0 l.rows) l.around) row → IsValidAt l.source row
    → IsUtf8 (value_bytes 4 l.source.offsets.now l.source.values.now row))
