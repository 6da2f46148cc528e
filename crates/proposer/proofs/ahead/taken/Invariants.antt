use Rattle.std.proofs.Common.{map}
use Rattle.proposer.specs.Kept.{reports_in}
use Rattle.proposer.proofs.Keeping.{Taken}
use Rattle.proposer.proofs.ahead.taken.Given as goal

abbrev pub invariant-loop-reports : goal.invariant-loop-reports
invariant-loop-reports l = Taken l.fn.slot l.initial.choice (map reports_in l.initial.kept) l.reports-index l.choice (map reports_in l.kept)
