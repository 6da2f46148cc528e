use Rattle.std.proofs.Common.{map, drop}
use Rattle.header_types.specs.Views.{tree_of, forest_of}
use Rattle.header_types.specs.Totals.{totals_of}
use Rattle.header_types.specs.Fitting.{Leaves}
use Rattle.header_types.proofs.profile.+add_fields.Given as goal

abbrev pub decreases-add_fields : goal.decreases-add_fields
decreases-add_fields l = l.levels

abbrev pub invariant-loop-field : goal.invariant-loop-field
invariant-loop-field l =
    Leaves l.levels (totals_of l.initial.seen) (forest_of (map tree_of l.fields)) (totals_of l.seen)
    (forest_of (map tree_of (drop l.field-index l.fields)))
