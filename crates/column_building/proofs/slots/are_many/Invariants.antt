use Rattle.std.proofs.Common.{◌≡◌, ◌≤◌, take}
use Rattle.batch_types.specs.LaysOut.{values_limit}
use Rattle.column_building.specs.Slots.{elements_counted}
use Rattle.column_building.proofs.slots.are_many.Given as goal

abbrev pub invariant-loop-slot : goal.invariant-loop-slot
invariant-loop-slot l =
    (l.total ≡ elements_counted l.fn.size (take l.slot-index l.fn.slots)) × (l.total ≤ values_limit)
