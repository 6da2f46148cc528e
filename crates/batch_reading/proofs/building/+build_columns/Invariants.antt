use Rattle.std.proofs.Common.{◌≡◌, ◌+◌, ◌++◌, List, drop}
use Rattle.batch_types.specs.Laid.{node_count, buffer_count}
use Rattle.batch_columns.specs.Contents.{Contents}
use Rattle.batch_reading.specs.Readable.{forest_seen, AreReadable, HaveFewValues, AreBuilt}
use Rattle.batch_reading.proofs.building.+build_columns.Given as goal

abbrev pub decreases-build_columns : goal.decreases-build_columns
decreases-build_columns l = node_count (forest_seen l.fields.now)

abbrev pub invariant-loop-field : goal.invariant-loop-field
invariant-loop-field l = record {
  readable : AreReadable (forest_seen (drop l.field-index l.fn.fields)) l.fn.head l.next l.fn.body l.fn.selection;
  done : (rest : List Contents) → AreBuilt (forest_seen (drop l.field-index l.fn.fields)) l.fn.head l.next l.fn.body l.fn.selection rest
      → AreBuilt (forest_seen l.fn.fields) l.fn.head l.fn.place l.fn.body l.fn.selection (l.columns.items ++ rest);
  few : HaveFewValues l.columns.items;
  node : l.next.node + node_count (forest_seen (drop l.field-index l.fn.fields)) ≡ l.fn.place.node + node_count (forest_seen l.fn.fields);
  buffer : l.next.buffer + buffer_count (forest_seen (drop l.field-index l.fn.fields)) ≡ l.fn.place.buffer + buffer_count (forest_seen l.fn.fields);
}
