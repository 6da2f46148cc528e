use Rattle.std.proofs.Common.{◌+◌, ◌*◌, map, take}
use Rattle.std.specs.List.{AllZip}
use Rattle.serde_json.specs.View.{view}
use Rattle.header_types.specs.Views.{tree_of}
use Rattle.batch_columns.specs.Held.{height, heights}
use Rattle.batch_columns.specs.FieldShapes.{field_shapes}
use Rattle.batch_cells.specs.CellViews.{cell_of}
use Rattle.column_building.specs.Whole.{field_shape}
use Rattle.json_rows.specs.Cells.{TellsCell}
use Rattle.json_rows.proofs.Told.{TellsMember}
use Rattle.json_rows.proofs.reading.+reading.Given as goal

abbrev pub decreases-cell_of : goal.decreases-cell_of
decreases-cell_of l = 8 * height (field_shape l.field.now)

abbrev pub decreases-cells_of : goal.decreases-cells_of
decreases-cells_of l = 8 * height (field_shape l.field.now) + 1

abbrev pub decreases-member_cell : goal.decreases-member_cell
decreases-member_cell l = 8 * height (field_shape l.field.now) + 1

abbrev pub decreases-form_cell : goal.decreases-form_cell
decreases-form_cell l = 8 * heights (field_shapes l.fields.now) + 7

abbrev pub decreases-elements_of : goal.decreases-elements_of
decreases-elements_of l = 8 * heights (field_shapes l.fields.now) + 5

abbrev pub decreases-members_of : goal.decreases-members_of
decreases-members_of l = 8 * heights (field_shapes l.fields.now) + 5

abbrev pub decreases-cells_at : goal.decreases-cells_at
decreases-cells_at l = 8 * heights (field_shapes l.fields.now) + 3

abbrev pub invariant-cells_of-loop-value : goal.invariant-cells_of-loop-value
invariant-cells_of-loop-value l =
    AllZip (TellsCell (tree_of l.field)) (map view (take l.value-index l.values)) (map cell_of l.cells.items)

abbrev pub invariant-cells_at-loop-field : goal.invariant-cells_at-loop-field
invariant-cells_at-loop-field l =
    AllZip (TellsMember (view l.value)) (map tree_of (take l.field-index l.fields)) (map cell_of l.cells.items)
