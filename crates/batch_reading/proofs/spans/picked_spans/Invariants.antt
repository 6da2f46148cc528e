use Rattle.std.proofs.Common.{◌≡◌, ◌+◌, ◌≤◌, map, length, take, drop}
use Rattle.std.specs.List.{flat_map}
use Rattle.batch_types.specs.Canonical.{offsets_of}
use Rattle.batch_types.specs.LaysOut.{values_limit}
use Rattle.batch_reading.specs.Spots.{places_of, places_ahead, spots_of}
use Rattle.batch_reading.specs.Taken.{span_taken}
use Rattle.batch_reading.proofs.spans.picked_spans.Given as goal

abbrev pub invariant-loop-number : goal.invariant-loop-number
invariant-loop-number l = record {
  ended : l.ends.items ≡ offsets_of 4 (map (λ spot. length (span_taken l.fn.offsets l.fn.bytes spot)) (take l.number (spots_of l.fn.selection)));
  spanned : l.spans.items ≡ flat_map (span_taken l.fn.offsets l.fn.bytes) (take l.number (spots_of l.fn.selection));
  ahead : places_ahead l.fn.selection.runs.now l.cursor ≡ drop l.number (places_of l.fn.selection.runs.now);
  within : l.cursor.place + l.cursor.left ≤ values_limit;
}
