use Rattle.std.proofs.Common.{◌≡◌, length, drop}
use Rattle.std.specs.List.{AllByRecursion}
use Rattle.column_building.proofs.Telling.{AreSame}
use Rattle.column_building.proofs.batch.have_rows.Given as goal

abbrev pub invariant-loop-cells : goal.invariant-loop-cells
invariant-loop-cells l =
    AreSame (AllByRecursion (λ cells. length cells.items ≡ l.rows) (drop l.cells-index l.columns))
    (AllByRecursion (λ cells. length cells.items ≡ l.rows) l.columns)
