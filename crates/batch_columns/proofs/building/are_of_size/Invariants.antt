use Rattle.std.proofs.Common.{◌≡◌, drop}
use Rattle.std.specs.List.{list_all}
use Rattle.batch_columns.specs.Made.{has_size}
use Rattle.batch_columns.proofs.building.are_of_size.Given as goal

abbrev pub invariant-loop-cell : goal.invariant-loop-cell
invariant-loop-cell l =
    list_all (has_size l.fn.size) (drop l.cell-index l.fn.cells) ≡ list_all (has_size l.fn.size) l.fn.cells
