use Rattle.std.proofs.Common.{◌≡◌, map, take, replicate}
use Rattle.std.specs.List.{flat_map}
use Rattle.batch_types.specs.Canonical.{bytes_or}
use Rattle.batch_columns.specs.Made.{bytes_or_null}
use Rattle.batch_columns.proofs.building.blocks.Given as goal

abbrev pub invariant-loop-cell : goal.invariant-loop-cell
invariant-loop-cell l =
    l.bytes.items ≡ flat_map (bytes_or (replicate l.fn.size 0)) (map bytes_or_null (take l.cell-index l.fn.cells))
