use Rattle.std.proofs.Common.{◌≡◌, ◌+◌, ◌*◌, ◌≤◌, map, drop}
use Rattle.header_types.specs.Views.{tree_of, forest_of}
use Rattle.batch_types.specs.Laid.{node_count, buffer_count}
use Rattle.batch_columns.proofs.place.+place_behind.Given as goal

abbrev pub decreases-place_behind : goal.decreases-place_behind
decreases-place_behind l = goal.size-place_behind l

abbrev pub invariant-loop-field : goal.invariant-loop-field
invariant-loop-field l =
    (l.place.node + node_count (forest_of (map tree_of (drop l.field-index l.fields)))
    ≡ l.initial.place.node + node_count (forest_of (map tree_of l.fields)))
    × (l.place.buffer + buffer_count (forest_of (map tree_of (drop l.field-index l.fields)))
    ≡ l.initial.place.buffer + buffer_count (forest_of (map tree_of l.fields)))
    × (l.place.buffer ≤ 3 * l.place.node)
