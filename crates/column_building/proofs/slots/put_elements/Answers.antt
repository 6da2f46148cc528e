use Rattle.std.proofs.Common.{◌∙◌, ◌++◌, sym, ap, replicate}
use Rattle.std.proofs.lemmas.Result.{on_ok_weaker}
use Rattle.batch_cells.specs.CellViews.{cell_of}
use Rattle.column_building.specs.Slots.{slot_cells}
use Rattle.column_building.proofs.Gathered.{seen_elements, seen_blanks}
use Rattle.column_building.proofs.slots.put_elements.Goals as goal

pub returns-in-Some : goal.returns-in-Some
returns-in-Some c =
    on_ok_weaker c.put_cells.result
    (λ all blank.
    all blank
    ∙ ap (λ l. slot_cells blank c.args.slots.now.items ++ l)
    (sym (seen_elements (replicate c.args.size blank) (cell_of c.args.cell.now) c.in-Some.cells.now c.in-Some.ensures.some)))
    c.put_cells.ensures

pub returns-in-None : goal.returns-in-None
returns-in-None c =
    on_ok_weaker c.put_blanks.result
    (λ all blank.
    all blank
    ∙ ap (λ l. slot_cells blank c.args.slots.now.items ++ l) (sym (seen_blanks (replicate c.args.size blank) (cell_of c.args.cell.now) c.in-None.ensures.none)))
    c.put_blanks.ensures
