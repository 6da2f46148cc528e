use Rattle.std.proofs.Common.{◌≡◌, drop}
use Rattle.proposer.specs.Reporting.{rises_from}
use Rattle.proposer.proofs.reports.rise_from.Given as goal

abbrev pub invariant-loop-slot : goal.invariant-loop-slot
invariant-loop-slot l = rises_from l.fn.first l.reports ≡ rises_from l.least (drop l.slot-index l.reports)
