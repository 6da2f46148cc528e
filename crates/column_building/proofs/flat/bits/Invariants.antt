use Rattle.std.proofs.Common.{◌≡◌, false, map, take}
use Rattle.batch_types.specs.Cells.{bit_cell}
use Rattle.batch_columns.specs.Made.{bit_or_null}
use Rattle.column_building.specs.Slots.{slot_cells}
use Rattle.column_building.proofs.flat.bits.Given as goal

abbrev pub invariant-loop-slot : goal.invariant-loop-slot
invariant-loop-slot l = map bit_or_null l.made.items ≡ slot_cells (bit_cell false) (take l.slot-index l.fn.slots)
