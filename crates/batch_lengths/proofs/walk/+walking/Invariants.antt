use Rattle.std.proofs.Common.{◌≡◌, ◌+◌, ◌-◌, ◌*◌, ◌≤◌, drop, length}
use Rattle.header_types.specs.FieldView.{fields_in}
use Rattle.batch_types.specs.Laid.{node_count}
use Rattle.batch_columns.specs.Held.{layout_named}
use Rattle.batch_reading.specs.Planned.{spots_inside}
use Rattle.batch_reading.specs.Readable.{forest_seen, columns_there}
use Rattle.batch_lengths.specs.Along.{run_spots, source_spots, marked_from, spots_marked, IsGathered}
use Rattle.batch_lengths.specs.Reach.{end_inside}
use Rattle.batch_lengths.specs.Sizes.{MayWalk}
use Rattle.batch_lengths.specs.Tally.{tally, added_from, counted_with}
use Rattle.batch_lengths.proofs.Adding.{Adds}
use Rattle.batch_lengths.proofs.walk.+walking.Given as goal

abbrev pub decreases-walk : goal.decreases-walk
decreases-walk l = 16 * node_count (forest_seen l.fields.now)

abbrev pub decreases-walk_column : goal.decreases-walk_column
decreases-walk_column l = 16 * node_count (fields_in l.field.now) + 9

abbrev pub decreases-walk_inside : goal.decreases-walk_inside
decreases-walk_inside l = 16 * node_count (fields_in l.field.now) + 8

abbrev pub decreases-walk_blocks : goal.decreases-walk_blocks
decreases-walk_blocks l = 16 * node_count (fields_in l.field.now) + 7

abbrev pub decreases-walk_block : goal.decreases-walk_block
decreases-walk_block l = 16 * node_count (fields_in l.field.now) + 6

abbrev pub decreases-walk_taken : goal.decreases-walk_taken
decreases-walk_taken l = 16 * node_count (fields_in l.field.now) + 5

abbrev pub decreases-walk_places : goal.decreases-walk_places
decreases-walk_places l = 16 * node_count (fields_in l.field.now) + 4

abbrev pub decreases-gather_alike : goal.decreases-gather_alike
decreases-gather_alike l = 16 * node_count (fields_in l.field.now) + 3

abbrev pub decreases-gather : goal.decreases-gather
decreases-gather l = 16 * node_count (fields_in l.field.now) + 2

abbrev pub decreases-walk_some : goal.decreases-walk_some
decreases-walk_some l = 16 * node_count (fields_in l.field.now) + 1

abbrev pub invariant-walk_places-loop-done : goal.invariant-walk_places-loop-done
invariant-walk_places-loop-done l = record {
  few : l.done ≤ l.marks.count;
  gathered : IsGathered l.gathered;
  behind : l.gathered.start + l.gathered.count ≤ end_inside (layout_named l.source.layout) l.source.offsets.now (l.marks.start + l.done);
  long : length l.table ≡ length l.fn.table;
  adds : counted_with (fields_in l.field) l.head l.first l.body l.table (spots_marked l.gathered)
      ≡ counted_with (fields_in l.field) l.head l.first l.body l.fn.table
      (spots_inside (layout_named l.source.layout) l.source.offsets.now (marked_from l.marks 0 l.done));
}

abbrev pub decreases-walk_places-loop-done : goal.decreases-walk_places-loop-done
decreases-walk_places-loop-done l = l.marks.count - l.done

abbrev pub invariant-walk_blocks-loop-done : goal.invariant-walk_blocks-loop-done
invariant-walk_blocks-loop-done l =
    (l.done ≤ l.count) × Adds (fields_in l.field) l.head l.first l.body l.fn.table l.table (source_spots l.source (run_spots l.start l.done))

abbrev pub decreases-walk_blocks-loop-done : goal.decreases-walk_blocks-loop-done
decreases-walk_blocks-loop-done l = l.count - l.done

abbrev pub invariant-walk-loop-field : goal.invariant-walk-loop-field
invariant-walk-loop-field l = record {
  may : MayWalk (forest_seen (drop l.field-index l.fn.fields)) l.fn.head l.next l.fn.body (l.fn.marks.start + l.fn.marks.count);
  long : length l.table ≡ length l.fn.table;
  nodes : l.next.node + node_count (forest_seen (drop l.field-index l.fn.fields)) ≡ l.fn.place.node + node_count (forest_seen l.fn.fields);
  adds : added_from l.fn.place.node l.fn.table (tally l.fn.body (columns_there (forest_seen l.fn.fields) l.fn.head l.fn.place) (spots_marked l.fn.marks))
      ≡ added_from l.next.node l.table (tally l.fn.body (columns_there (forest_seen (drop l.field-index l.fn.fields)) l.fn.head l.next) (spots_marked l.fn.marks));
}
