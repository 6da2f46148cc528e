use Rattle.std.proofs.Common.{◌∙◌, ◌++◌, refl, ap, map}
use Rattle.std.proofs.lemmas.List.{take_all}
use Rattle.batch_cells.specs.CellViews.{cell_of}
use Rattle.column_building.specs.Slots.{slot_cells}
use Rattle.column_building.proofs.Gathered.{cells_more}
use Rattle.column_building.proofs.slots.put_cells.Goals as goal

pub loop-cell-preserved : goal.loop-cell-preserved
loop-cell-preserved c =
    λ blank.
    cells_more blank c.loop-cell.slots.items c.push.new.self.items _ c.args.cells.now c.loop-cell.cell-index c.cell-item.result
    (slot_cells blank c.args.slots.now.items) c.loop-cell-test.true c.cell-item.is refl c.in_ok-push.ensures.items (c.loop-cell.invariant blank)

pub returns : goal.returns
returns c =
    λ blank.
    c.loop-cell.invariant blank
    ∙ ap (λ l. slot_cells blank c.args.slots.now.items ++ map cell_of l) (take_all c.loop-cell.cell-index c.args.cells.now c.loop-cell-test.false)
