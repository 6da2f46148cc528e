use Rattle.header_types.specs.Limits.{IsWithin}
use Rattle.header_types.specs.Totals.{totals_of}
use Rattle.header_reading.specs.Walking.{PassesForest}
use Rattle.header_reading.proofs.verify.+verify_fields.Given as goal

abbrev pub decreases-verify_fields : goal.decreases-verify_fields
decreases-verify_fields l = l.levels

abbrev pub invariant-loop-index : goal.invariant-loop-index
invariant-loop-index l =
    PassesForest l.buf l.vector.first l.index l.levels (totals_of l.initial.seen) (totals_of l.seen)
    × IsWithin (totals_of l.seen)
