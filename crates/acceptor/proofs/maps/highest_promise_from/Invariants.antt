use Rattle.std.proofs.Common.{◌≡◌, ℕ, List, ◌++◌}
use Rattle.ballots.specs.Ballot.{Ballot}
use Rattle.acceptor.proofs.Reporting.{HighestOf}
use Rattle.acceptor.proofs.maps.highest_promise_from.Given as goal

abbrev pub invariant-loop-slot : goal.invariant-loop-slot
invariant-loop-slot l = (done : List (ℕ × Ballot)) × (done ++ l.slot-iterator ≡ l.fn.promises.entries) × HighestOf done l.fn.first l.highest
