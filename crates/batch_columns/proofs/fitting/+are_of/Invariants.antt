use Rattle.std.proofs.Common.{◌≡◌, drop}
use Rattle.batch_columns.specs.Held.{shapes_held, heights}
use Rattle.batch_columns.specs.FieldShapes.{field_shapes}
use Rattle.batch_columns.proofs.fitting.+are_of.Given as goal

abbrev pub decreases-are_of : goal.decreases-are_of
decreases-are_of l = heights (shapes_held l.columns.now)

abbrev pub invariant-loop-index : goal.invariant-loop-index
invariant-loop-index l =
    (shapes_held (drop l.index l.columns) ≡ field_shapes (drop l.index l.fields) → shapes_held l.columns ≡ field_shapes l.fields)
    × (shapes_held l.columns ≡ field_shapes l.fields → shapes_held (drop l.index l.columns) ≡ field_shapes (drop l.index l.fields))
