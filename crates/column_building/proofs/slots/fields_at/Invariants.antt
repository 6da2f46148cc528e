use Rattle.std.proofs.Common.{◌≡◌, map, take}
use Rattle.batch_types.specs.Cells.{Cell}
use Rattle.batch_types.specs.Canonical.{field_or}
use Rattle.column_building.specs.Slots.{slot_cells}
use Rattle.column_building.proofs.slots.fields_at.Given as goal

abbrev pub invariant-loop-slot : goal.invariant-loop-slot
invariant-loop-slot l =
    (blank whole : Cell) → field_or blank l.fn.index whole ≡ blank
    → slot_cells blank l.fields.items ≡ map (field_or blank l.fn.index) (slot_cells whole (take l.slot-index l.fn.slots))
