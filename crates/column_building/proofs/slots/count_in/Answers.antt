use Rattle.std.proofs.Common.{◌∙◌, sym, ap, length, replicate}
use Rattle.std.proofs.lemmas.List.{length-map, length-replicate}
use Rattle.batch_types.specs.Cells.{null_cell}
use Rattle.batch_cells.specs.CellViews.{cell_of}
use Rattle.column_building.proofs.Gathered.{seen_elements, seen_blanks}
use Rattle.column_building.proofs.slots.count_in.Goals as goal

pub returns-in-Some : goal.returns-in-Some
returns-in-Some c =
    sym (length-map c.in-Some.cells.now cell_of)
    ∙ ap length (sym (seen_elements (replicate c.args.size null_cell) (cell_of c.args.cell.now) c.in-Some.cells.now c.in-Some.ensures.some))

pub returns-in-None : goal.returns-in-None
returns-in-None c =
    sym (ap length (seen_blanks (replicate c.args.size null_cell) (cell_of c.args.cell.now) c.in-None.ensures.none) ∙ length-replicate c.args.size null_cell)
