use Rattle.std.proofs.Common.{◌≡◌, ℕ, List, ◌++◌}
use Rattle.ballots.specs.declared.acceptance.Acceptance.{Acceptance}
use Rattle.acceptor.proofs.Reporting.{Reported}
use Rattle.acceptor.proofs.maps.acceptances_from.Given as goal

abbrev pub invariant-loop-slot : goal.invariant-loop-slot
invariant-loop-slot l = (done : List (ℕ × Acceptance)) × (done ++ l.slot-iterator ≡ l.fn.acceptances.entries) × Reported done l.fn.first l.reports.items
