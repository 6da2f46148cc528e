use Rattle.schedule_runner.proofs.Seating.{AreOpened}
use Rattle.schedule_runner.proofs.seats.Seats.open.Given as goal

abbrev pub invariant-loop-number : goal.invariant-loop-number
invariant-loop-number l = AreOpened l.config l.seats.items l.number
