use Rattle.std.proofs.Common.{drop}
use Rattle.batch_columns.specs.Held.{shapes_held, heights}
use Rattle.batch_columns.specs.Few.{AreFew}
use Rattle.batch_columns.proofs.counts.+are_few.Given as goal

abbrev pub decreases-are_few : goal.decreases-are_few
decreases-are_few l = heights (shapes_held l.columns.now)

abbrev pub invariant-loop-column : goal.invariant-loop-column
invariant-loop-column l =
    (AreFew (drop l.column-index l.columns) → AreFew l.columns) × (AreFew l.columns → AreFew (drop l.column-index l.columns))
