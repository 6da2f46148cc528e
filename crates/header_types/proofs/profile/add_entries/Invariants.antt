use Rattle.std.proofs.Common.{◌≡◌, map, drop}
use Rattle.header_types.specs.Views.{entry_of}
use Rattle.header_types.specs.Limits.{entries_totals, add_totals, IsWithin}
use Rattle.header_types.specs.Totals.{totals_of}
use Rattle.header_types.proofs.profile.add_entries.Given as goal

abbrev pub invariant-loop-entry : goal.invariant-loop-entry
invariant-loop-entry l =
    (add_totals (totals_of l.seen) (entries_totals (map entry_of (drop l.entry-index l.entries))) ≡ add_totals
    (totals_of l.initial.seen) (entries_totals (map entry_of l.entries)))
    × IsWithin (totals_of l.seen)
