use Rattle.std.proofs.Common.{map}
use Rattle.batch_cells.specs.CellViews.{cell_of}
use Rattle.json_rows.specs.Cells.{forest_in}
use Rattle.json_rows.specs.Lines.{WritesRows}
use Rattle.json_rows.proofs.row_lines.lines_text.Given as goal

abbrev pub invariant-loop-row : goal.invariant-loop-row
invariant-loop-row l = WritesRows (forest_in l.fields) (map (λ cells. map cell_of cells.items) l.columns) l.row l.text.items
