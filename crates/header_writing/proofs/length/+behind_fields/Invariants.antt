use Rattle.std.proofs.Common.{map, drop}
use Rattle.header_types.specs.Limits.{forest_depth}
use Rattle.header_types.specs.Views.{tree_of, forest_of}
use Rattle.header_writing.specs.Canonical.{field_cells}
use Rattle.header_writing.specs.Objects.{references_object}
use Rattle.header_writing.specs.Weights.{Behind, behind}
use Rattle.header_writing.proofs.length.+behind_fields.Given as goal

abbrev pub decreases-behind_fields : goal.decreases-behind_fields
decreases-behind_fields l = forest_depth (forest_of (map tree_of l.fields.now))

abbrev pub invariant-loop-field : goal.invariant-loop-field
invariant-loop-field l =
    Behind (behind l.place (references_object (field_cells (forest_of (map tree_of l.fields))))) l.end
    (field_cells (forest_of (map tree_of (drop l.field-index l.fields))))
