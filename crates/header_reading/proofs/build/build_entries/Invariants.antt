use Rattle.std.proofs.Common.{◌≡◌, map, length}
use Rattle.header_types.specs.Views.{entry_of}
use Rattle.header_types.specs.Shown.{ShowsEntries}
use Rattle.header_types.specs.Limits.{IsWithin}
use Rattle.header_types.specs.Totals.{totals_of}
use Rattle.header_reading.specs.Walking.{PassesEntries}
use Rattle.header_reading.proofs.build.build_entries.Given as goal

abbrev pub invariant-loop-index : goal.invariant-loop-index
invariant-loop-index l =
    ShowsEntries l.buf l.vector.first (map entry_of l.entries.items)
    × (length l.entries.items ≡ l.index)
    × PassesEntries l.buf l.vector.first l.index (totals_of l.initial.seen) (totals_of l.seen)
    × IsWithin (totals_of l.seen)
