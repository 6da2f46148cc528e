use Rattle.std.proofs.Common.{map}
use Rattle.proposer.specs.Kept.{reports_in}
use Rattle.proposer.proofs.Keeping.{SomeLeft}
use Rattle.proposer.proofs.ahead.are_some.Given as goal

abbrev pub invariant-loop-reports : goal.invariant-loop-reports
invariant-loop-reports l = SomeLeft l.reports-index (map reports_in l.kept)
