use Rattle.std.proofs.Common.{◌≡◌, ◌+◌, ◌-◌, ◌*◌, ◌≤◌, map, take}
use Rattle.std.specs.List.{range_with_len}
use Rattle.batch_columns.specs.Held.{shapes_held, height, heights}
use Rattle.batch_cells.specs.CellViews.{cell_of}
use Rattle.batch_cells.specs.Places.{cell_in}
use Rattle.batch_cells.proofs.looking.+cell.Given as goal

abbrev pub decreases-block_at : goal.decreases-block_at
decreases-block_at l = 4 * height l.column.now.shape

abbrev pub decreases-cell_at : goal.decreases-cell_at
decreases-cell_at l = 4 * height l.column.now.shape + 1

abbrev pub decreases-cells_between : goal.decreases-cells_between
decreases-cells_between l = 4 * height l.column.now.shape + 2

abbrev pub decreases-list_at : goal.decreases-list_at
decreases-list_at l = 4 * heights (shapes_held l.columns.now) + 3

abbrev pub decreases-fields_at : goal.decreases-fields_at
decreases-fields_at l = 4 * heights (shapes_held l.columns.now) + 3

abbrev pub invariant-cells_between-loop-row : goal.invariant-cells_between-loop-row
invariant-cells_between-loop-row l =
    (map cell_of l.cells.items ≡ map (cell_in l.column) (range_with_len l.start (l.row - l.start)))
    × (l.row - l.start ≤ l.end - l.start)

abbrev pub invariant-fields_at-loop-column : goal.invariant-fields_at-loop-column
invariant-fields_at-loop-column l =
    map cell_of l.cells.items ≡ map (λ column. cell_in column l.row) (take l.column-index l.columns)
