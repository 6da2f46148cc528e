use Rattle.std.proofs.Common.{take}
use Rattle.record_sums.specs.Entering.{AreEntries}
use Rattle.record_sums.proofs.entering.entries_of.Given as goal

abbrev pub invariant-loop-number : goal.invariant-loop-number
invariant-loop-number l = AreEntries l.entries.items (take l.number l.records)
