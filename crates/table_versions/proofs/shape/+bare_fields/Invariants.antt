use Rattle.std.proofs.Common.{◌≡◌, map}
use Rattle.header_types.specs.SameShape.{bare_tree}
use Rattle.header_types.specs.Views.{tree_of}
use Rattle.table_versions.proofs.shape.+bare_fields.Given as goal

abbrev pub invariant-loop-field : goal.invariant-loop-field
invariant-loop-field l = map tree_of l.bare.items ≡ map bare_tree (map tree_of l.yielded)
