use Rattle.std.proofs.Common.{◌∙◌, ◌++◌, ap, map}
use Rattle.batch_cells.specs.CellViews.{cell_of}
use Rattle.column_building.specs.Slots.{slot_cells}
use Rattle.column_building.proofs.slots.slots_of.Goals as goal

pub returns : goal.returns
returns c =
    λ blank.
    c.in_ok-put_cells.ensures blank ∙ ap (λ l. slot_cells blank l ++ map cell_of c.args.cells.now) c.new-slots.ensures.items
