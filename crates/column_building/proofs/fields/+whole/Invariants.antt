use Rattle.std.proofs.Common.{◌≡◌, ◌+◌, ◌*◌, drop}
use Rattle.batch_columns.specs.FieldShapes.{field_shapes}
use Rattle.batch_columns.specs.Held.{height, heights}
use Rattle.column_building.specs.Whole.{field_shape, are_whole}
use Rattle.column_building.proofs.fields.+whole.Given as goal

abbrev pub decreases-is_whole : goal.decreases-is_whole
decreases-is_whole l = 2 * height (field_shape l.field.now)

abbrev pub decreases-are_whole : goal.decreases-are_whole
decreases-are_whole l = 2 * heights (field_shapes l.fields.now) + 1

abbrev pub invariant-are_whole-loop-field : goal.invariant-are_whole-loop-field
invariant-are_whole-loop-field l =
    are_whole (field_shapes (drop l.field-index l.fields)) ≡ are_whole (field_shapes l.fields)
