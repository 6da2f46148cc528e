use Rattle.std.proofs.Common.{◌≡◌, ◌++◌, map, take}
use Rattle.batch_types.specs.Cells.{Cell}
use Rattle.batch_cells.specs.CellViews.{cell_of}
use Rattle.column_building.specs.Slots.{slot_cells}
use Rattle.column_building.proofs.slots.put_cells.Given as goal

abbrev pub invariant-loop-cell : goal.invariant-loop-cell
invariant-loop-cell l =
    (blank : Cell) → slot_cells blank l.slots.items ≡ slot_cells blank l.fn.slots.items ++ map cell_of (take l.cell-index l.fn.cells)
