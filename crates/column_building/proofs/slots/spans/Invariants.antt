use Rattle.std.proofs.Common.{◌≡◌, [], take}
use Rattle.std.specs.List.{flat_map}
use Rattle.batch_types.specs.Cells.{Cell, list_cell, no_cell}
use Rattle.batch_types.specs.Canonical.{elements_or, elements_lengths, offsets_of}
use Rattle.column_building.specs.Slots.{slot_cells}
use Rattle.column_building.proofs.slots.spans.Given as goal

abbrev pub invariant-loop-slot : goal.invariant-loop-slot
invariant-loop-slot l = record {
  offsets : l.offsets.items ≡ offsets_of 4 (elements_lengths (slot_cells (list_cell no_cell) (take l.slot-index l.fn.slots)));
  elements : (blank : Cell) → slot_cells blank l.elements.items
      ≡ flat_map (elements_or []) (slot_cells (list_cell no_cell) (take l.slot-index l.fn.slots));
}
