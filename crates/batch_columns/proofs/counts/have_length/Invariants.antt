use Rattle.std.proofs.Common.{◌≡◌, length, drop}
use Rattle.std.specs.List.{AllByRecursion}
use Rattle.batch_columns.proofs.counts.have_length.Given as goal

abbrev pub invariant-loop-column : goal.invariant-loop-column
invariant-loop-column l =
    (AllByRecursion (λ column. length column.cells ≡ l.count) (drop l.column-index l.columns) → AllByRecursion (λ column. length column.cells ≡ l.count) l.columns)
    × (AllByRecursion (λ column. length column.cells ≡ l.count) l.columns → AllByRecursion (λ column. length column.cells ≡ l.count) (drop l.column-index l.columns))
