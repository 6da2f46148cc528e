use Rattle.header_types.specs.Limits.{IsWithin}
use Rattle.header_types.specs.Totals.{totals_of}
use Rattle.header_reading.specs.Walking.{PassesEntries}
use Rattle.header_reading.proofs.verify.verify_entries.Given as goal

abbrev pub invariant-loop-index : goal.invariant-loop-index
invariant-loop-index l =
    PassesEntries l.buf l.vector.first l.index (totals_of l.initial.seen) (totals_of l.seen)
    × IsWithin (totals_of l.seen)
