use Rattle.std.proofs.Common.{◌≡◌, ◌+◌, ◌*◌, ◌++◌, true, List, drop}
use Rattle.batch_types.specs.Cells.{tuple_cell}
use Rattle.batch_types.specs.Canonical.{blanks_of, fields_parts}
use Rattle.batch_types.specs.Written.{AreFieldRooms}
use Rattle.batch_columns.specs.Contents.{Contents}
use Rattle.batch_columns.specs.FieldShapes.{field_shapes}
use Rattle.batch_columns.specs.Held.{height, heights}
use Rattle.column_building.specs.Slots.{slot_cells}
use Rattle.column_building.specs.Whole.{field_shape, are_whole}
use Rattle.column_building.specs.Built.{AreBuiltFields, DoFieldsFit, AreFewNodes}
use Rattle.column_building.proofs.building.+building.Given as goal

abbrev pub decreases-build_column : goal.decreases-build_column
decreases-build_column l = 3 * height (field_shape l.field.now)

abbrev pub decreases-list_column : goal.decreases-list_column
decreases-list_column l = 3 * heights (field_shapes l.fields.now) + 2

abbrev pub decreases-blocks_column : goal.decreases-blocks_column
decreases-blocks_column l = 3 * heights (field_shapes l.fields.now) + 2

abbrev pub decreases-struct_column : goal.decreases-struct_column
decreases-struct_column l = 3 * heights (field_shapes l.fields.now) + 2

abbrev pub decreases-build_first : goal.decreases-build_first
decreases-build_first l = 3 * heights (field_shapes l.fields.now) + 1

abbrev pub decreases-build_fields : goal.decreases-build_fields
decreases-build_fields l = 3 * heights (field_shapes l.fields.now) + 1

abbrev pub invariant-build_fields-loop-index : goal.invariant-build_fields-loop-index
invariant-build_fields-loop-index l =
    let cells = slot_cells (tuple_cell (blanks_of (field_shapes l.fields))) l.slots in
    record {
      whole : are_whole (field_shapes (drop l.index l.fields)) ≡ true;
      fit : DoFieldsFit (field_shapes (drop l.index l.fields)) l.index cells;
      built : (rest : List Contents) → AreBuiltFields (field_shapes (drop l.index l.fields)) l.index cells rest
          → AreBuiltFields (field_shapes l.fields) 0 cells (l.columns.items ++ rest);
      few : AreFewNodes (fields_parts (field_shapes l.fields) 0 cells).nodes
          → AreFewNodes (fields_parts (field_shapes (drop l.index l.fields)) l.index cells).nodes;
      room : AreFieldRooms (field_shapes l.fields) 0 cells → AreFieldRooms (field_shapes (drop l.index l.fields)) l.index cells;
    }
