use Rattle.std.proofs.Common.{◌≡◌, ◌++◌, replicate}
use Rattle.batch_types.specs.Cells.{Cell}
use Rattle.column_building.specs.Slots.{slot_cells}
use Rattle.column_building.proofs.slots.put_blanks.Given as goal

abbrev pub invariant-loop : goal.invariant-loop
invariant-loop l =
    (blank : Cell) → slot_cells blank l.slots.items ≡ slot_cells blank l.fn.slots.items ++ replicate l.counter blank
