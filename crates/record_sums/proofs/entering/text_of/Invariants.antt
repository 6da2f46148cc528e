use Rattle.std.proofs.Common.{◌≡◌, take}
use Rattle.record_sums.specs.Entering.{entries_text}
use Rattle.record_sums.proofs.entering.text_of.Given as goal

abbrev pub invariant-loop-entry : goal.invariant-loop-entry
invariant-loop-entry l = l.text.items ≡ entries_text (take l.entry-index l.entries)
