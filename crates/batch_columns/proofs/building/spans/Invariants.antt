use Rattle.std.proofs.Common.{◌≡◌, [], map, take}
use Rattle.std.specs.List.{flat_map}
use Rattle.batch_types.specs.Canonical.{bytes_or, bytes_lengths, offsets_of}
use Rattle.batch_columns.specs.Made.{bytes_or_null}
use Rattle.batch_columns.proofs.building.spans.Given as goal

abbrev pub invariant-loop-cell : goal.invariant-loop-cell
invariant-loop-cell l =
    (l.offsets.items ≡ offsets_of 4 (bytes_lengths (map bytes_or_null (take l.cell-index l.fn.cells))))
    × (l.bytes.items ≡ flat_map (bytes_or []) (map bytes_or_null (take l.cell-index l.fn.cells)))
