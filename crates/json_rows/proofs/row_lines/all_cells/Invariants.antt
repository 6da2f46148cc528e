use Rattle.std.proofs.Common.{◌≡◌, map, take}
use Rattle.batch_columns.specs.Few.{columns_cells}
use Rattle.batch_cells.specs.CellViews.{cell_of}
use Rattle.json_rows.proofs.row_lines.all_cells.Given as goal

abbrev pub invariant-loop-column : goal.invariant-loop-column
invariant-loop-column l = map (λ cells. map cell_of cells.items) l.all.items ≡ columns_cells (take l.column-index l.columns)
