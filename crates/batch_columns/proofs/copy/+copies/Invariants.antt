use Rattle.std.proofs.Common.{◌≡◌, take}
use Rattle.batch_columns.specs.Held.{shapes_held, heights}
use Rattle.batch_columns.proofs.copy.+copies.Given as goal

abbrev pub decreases-copies : goal.decreases-copies
decreases-copies l = heights (shapes_held l.columns.now)

abbrev pub invariant-loop-column : goal.invariant-loop-column
invariant-loop-column l = l.new.items ≡ take l.column-index l.columns
