use Rattle.std.proofs.Common.{◌≡◌, [], map, take}
use Rattle.std.specs.List.{AllByRecursion, flat_map}
use Rattle.std.specs.Str.{IsUtf8}
use Rattle.batch_types.specs.Canonical.{bytes_or, bytes_lengths, offsets_of}
use Rattle.batch_types.specs.Typed.{AreBytes}
use Rattle.batch_columns.specs.Made.{bytes_or_null}
use Rattle.batch_columns.proofs.building.text_spans.Given as goal

abbrev pub invariant-loop-cell : goal.invariant-loop-cell
invariant-loop-cell l = record {
  offsets : l.offsets.items ≡ offsets_of 4 (bytes_lengths (map bytes_or_null (take l.cell-index l.fn.cells)));
  bytes : l.bytes.items ≡ flat_map (bytes_or []) (map bytes_or_null (take l.cell-index l.fn.cells));
  utf8 : AllByRecursion (AreBytes IsUtf8) (map bytes_or_null (take l.cell-index l.fn.cells));
}
