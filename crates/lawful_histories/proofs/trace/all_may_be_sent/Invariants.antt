use Rattle.lawful_histories.specs.Judging.{AllMayBeSentUpTo}
use Rattle.lawful_histories.proofs.trace.all_may_be_sent.Given as goal

abbrev pub invariant-loop-place : goal.invariant-loop-place
invariant-loop-place l = AllMayBeSentUpTo l.members l.sent l.place
