use Rattle.std.proofs.Common.{ℕ, ◌<◌}
use Rattle.std.specs.Str.{IsCharBoundary}
use Rattle.batch_types.specs.Placed.{start_of}
use Rattle.batch_checking.proofs.texts.are_boundaries.Given as goal

abbrev pub invariant-loop-row : goal.invariant-loop-row
invariant-loop-row l = (row : ℕ) → row < l.row → IsCharBoundary l.fn.text (start_of 4 l.fn.offsets row)
