use Rattle.std.proofs.Common.{map, option_map}
use Rattle.proposer.specs.Kept.{reports_in}
use Rattle.proposer.proofs.Keeping.{Seen}
use Rattle.proposer.proofs.ahead.seen.Given as goal

abbrev pub invariant-loop-reports : goal.invariant-loop-reports
invariant-loop-reports l = Seen l.fn.slot (map reports_in l.kept) l.reports-index (option_map (λ report. report.now) l.highest)
