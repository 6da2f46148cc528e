use Rattle.std.proofs.Common.{◌≡◌, map, take}
use Rattle.batch_types.specs.Cells.{bytes_cell}
use Rattle.batch_columns.specs.Made.{bytes_or_null}
use Rattle.column_building.specs.Slots.{slot_cells}
use Rattle.column_building.proofs.flat.bytes.Given as goal

abbrev pub invariant-loop-slot : goal.invariant-loop-slot
invariant-loop-slot l = map bytes_or_null l.made.items ≡ slot_cells (bytes_cell l.fn.blank) (take l.slot-index l.fn.slots)
