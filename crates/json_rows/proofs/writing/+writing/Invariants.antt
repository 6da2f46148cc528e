use Rattle.std.proofs.Common.{◌≡◌, ◌+◌, ◌*◌, List, map, drop}
use Rattle.json.specs.Token.{Token}
use Rattle.header_types.specs.Views.{tree_of}
use Rattle.header_types.specs.Limits.{tree_depth}
use Rattle.batch_columns.specs.Held.{height, heights}
use Rattle.batch_columns.specs.FieldShapes.{field_shapes}
use Rattle.batch_cells.specs.CellViews.{cell_of}
use Rattle.column_building.specs.Whole.{field_shape}
use Rattle.json_rows.specs.Cells.{TellsCell, forest_in}
use Rattle.json_rows.specs.Written.{GoesOn, WritesElements, WritesMembers}
use Rattle.json_rows.proofs.writing.+writing.Given as goal

abbrev pub decreases-write_cell : goal.decreases-write_cell
decreases-write_cell l = 8 * height (field_shape l.field.now)

abbrev pub decreases-write_each : goal.decreases-write_each
decreases-write_each l = 8 * height (field_shape l.field.now) + 1

abbrev pub decreases-write_member : goal.decreases-write_member
decreases-write_member l = 8 * height (field_shape l.field.now) + 1

abbrev pub decreases-write_form : goal.decreases-write_form
decreases-write_form l = 8 * heights (field_shapes l.fields.now) + 7

abbrev pub decreases-write_elements : goal.decreases-write_elements
decreases-write_elements l = 8 * heights (field_shapes l.fields.now) + 5

abbrev pub decreases-write_members : goal.decreases-write_members
decreases-write_members l = 8 * heights (field_shapes l.fields.now) + 5

abbrev pub decreases-write_each_member : goal.decreases-write_each_member
decreases-write_each_member l = 8 * heights (field_shapes l.fields.now) + 3

-- what ends the array well from here ends it well from its beginning
abbrev pub invariant-write_each-loop-cell : goal.invariant-write_each-loop-cell
invariant-write_each-loop-cell l =
    (l.out.before ≡ l.initial.out.before)
    × GoesOn l.initial.out.tokens l.out.tokens
    × ((end : List Token) → WritesElements (TellsCell (tree_of l.field)) (tree_depth (tree_of l.field)) (map cell_of (drop l.cell-index l.cells)) l.out.tokens end
    → WritesElements (TellsCell (tree_of l.field)) (tree_depth (tree_of l.field)) (map cell_of l.cells) l.initial.out.tokens end)

abbrev pub invariant-write_each_member-loop-index : goal.invariant-write_each_member-loop-index
invariant-write_each_member-loop-index l =
    (l.out.before ≡ l.initial.out.before)
    × GoesOn l.initial.out.tokens l.out.tokens
    × ((end : List Token) → WritesMembers (forest_in (drop l.index l.fields)) (map cell_of (drop l.index l.cells)) l.out.tokens end
    → WritesMembers (forest_in l.fields) (map cell_of l.cells) l.initial.out.tokens end)
