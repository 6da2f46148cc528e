use Rattle.std.proofs.Common.{◌≡◌, take, replicate}
use Rattle.std.specs.List.{flat_map}
use Rattle.batch_types.specs.Cells.{Cell, list_cell, cells_of}
use Rattle.batch_types.specs.Canonical.{elements_or}
use Rattle.column_building.specs.Slots.{slot_cells}
use Rattle.column_building.proofs.slots.blocks.Given as goal

abbrev pub invariant-loop-slot : goal.invariant-loop-slot
invariant-loop-slot l =
    (blank : Cell) → slot_cells blank l.elements.items
    ≡ flat_map (elements_or (replicate l.fn.size blank))
    (slot_cells (list_cell (cells_of (replicate l.fn.size blank))) (take l.slot-index l.fn.slots))
