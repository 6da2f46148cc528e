use Rattle.std.proofs.Common.{drop}
use Rattle.batch_columns.specs.Held.{heights}
use Rattle.batch_columns.specs.FieldShapes.{field_shapes}
use Rattle.json_rows.specs.Cells.{forest_in}
use Rattle.json_rows.specs.Written.{HaveOwnNames}
use Rattle.json_rows.proofs.names.+have_own_names.Given as goal

abbrev pub decreases-have_own_names : goal.decreases-have_own_names
decreases-have_own_names l = heights (field_shapes l.fields.now)

abbrev pub invariant-loop-index : goal.invariant-loop-index
invariant-loop-index l =
    (HaveOwnNames (forest_in (drop l.index l.fields)) → HaveOwnNames (forest_in l.fields))
    × (HaveOwnNames (forest_in l.fields) → HaveOwnNames (forest_in (drop l.index l.fields)))
