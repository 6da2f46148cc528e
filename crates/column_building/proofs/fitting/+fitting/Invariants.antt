use Rattle.std.proofs.Common.{◌+◌, ◌*◌, map, drop}
use Rattle.std.specs.List.{AllByRecursion}
use Rattle.batch_types.specs.Cells.{cells_of}
use Rattle.batch_types.specs.Typed.{IsCellOf, AreFieldsOf}
use Rattle.batch_columns.specs.FieldShapes.{field_shapes}
use Rattle.batch_columns.specs.Held.{height, heights}
use Rattle.batch_cells.specs.CellViews.{cell_of}
use Rattle.column_building.specs.Whole.{field_shape}
use Rattle.column_building.proofs.Telling.{AreSame}
use Rattle.column_building.proofs.fitting.+fitting.Given as goal

abbrev pub decreases-is_cell_of : goal.decreases-is_cell_of
decreases-is_cell_of l = 3 * height (field_shape l.field.now)

abbrev pub decreases-are_cells_of : goal.decreases-are_cells_of
decreases-are_cells_of l = 3 * height (field_shape l.field.now) + 1

abbrev pub decreases-are_elements_of : goal.decreases-are_elements_of
decreases-are_elements_of l = 3 * heights (field_shapes l.fields.now) + 2

abbrev pub decreases-are_fields_of : goal.decreases-are_fields_of
decreases-are_fields_of l = 3 * heights (field_shapes l.fields.now) + 2

abbrev pub invariant-are_cells_of-loop-cell : goal.invariant-are_cells_of-loop-cell
invariant-are_cells_of-loop-cell l =
    AreSame (AllByRecursion (IsCellOf (field_shape l.field)) (map cell_of (drop l.cell-index l.cells)))
    (AllByRecursion (IsCellOf (field_shape l.field)) (map cell_of l.cells))

abbrev pub invariant-are_fields_of-loop-index : goal.invariant-are_fields_of-loop-index
invariant-are_fields_of-loop-index l =
    AreSame (AreFieldsOf (field_shapes (drop l.index l.fields)) (cells_of (map cell_of (drop l.index l.cells))))
    (AreFieldsOf (field_shapes l.fields) (cells_of (map cell_of l.cells)))
