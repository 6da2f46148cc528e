use Rattle.std.proofs.Common.{◌≡◌, map, take}
use Rattle.column_building.specs.Slots.{slot_there}
use Rattle.column_building.proofs.nested.marks.Given as goal

abbrev pub invariant-loop-slot : goal.invariant-loop-slot
invariant-loop-slot l = l.bits ≡ map slot_there (take l.slot-index l.fn.slots)
