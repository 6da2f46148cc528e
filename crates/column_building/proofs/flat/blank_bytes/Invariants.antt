use Rattle.std.proofs.Common.{◌≡◌, take}
use Rattle.batch_types.specs.Cells.{Cell}
use Rattle.column_building.specs.Slots.{slot_cells}
use Rattle.column_building.proofs.flat.blank_bytes.Given as goal

abbrev pub invariant-loop-slot : goal.invariant-loop-slot
invariant-loop-slot l =
    (x y : Cell) → slot_cells x (take l.slot-index l.fn.slots) ≡ slot_cells y (take l.slot-index l.fn.slots)
