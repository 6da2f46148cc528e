use Rattle.std.proofs.Common.{◌≡◌, ◌<◌, ◌^◌, map, take}
use Rattle.batch_columns.specs.Made.{bytes_or_null, bytes_in}
use Rattle.batch_columns.proofs.building.are_long.Given as goal

abbrev pub invariant-loop-cell : goal.invariant-loop-cell
invariant-loop-cell l = (l.total ≡ bytes_in (map bytes_or_null (take l.cell-index l.fn.cells))) × (l.total < 2 ^ 31)
