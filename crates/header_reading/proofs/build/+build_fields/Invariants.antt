use Rattle.std.proofs.Common.{◌≡◌, map, length}
use Rattle.header_types.specs.Views.{tree_of, forest_of}
use Rattle.header_types.specs.Shown.{ShowsForest}
use Rattle.header_types.specs.Limits.{IsWithin}
use Rattle.header_types.specs.Totals.{totals_of}
use Rattle.header_reading.specs.Walking.{PassesForest}
use Rattle.header_reading.proofs.build.+build_fields.Given as goal

abbrev pub decreases-build_fields : goal.decreases-build_fields
decreases-build_fields l = l.levels

abbrev pub invariant-loop-index : goal.invariant-loop-index
invariant-loop-index l =
    ShowsForest l.buf l.vector.first (forest_of (map tree_of l.fields.items))
    × (length l.fields.items ≡ l.index)
    × PassesForest l.buf l.vector.first l.index l.levels (totals_of l.initial.seen) (totals_of l.seen)
    × IsWithin (totals_of l.seen)
