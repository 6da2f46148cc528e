use Rattle.std.proofs.Common.{◌≡◌, map, take}
use Rattle.std.specs.Option.{is_some}
use Rattle.batch_columns.proofs.building.marks.Given as goal

abbrev pub invariant-loop-cell : goal.invariant-loop-cell
invariant-loop-cell g l = l.bits ≡ map is_some (take l.cell-index l.fn.cells)
