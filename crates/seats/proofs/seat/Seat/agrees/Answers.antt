use Rattle.std.proofs.Common.{subst}
use Rattle.seats.specs.State.{RunningSeat, IsLed}
use Rattle.seats.proofs.Shown.{runs_shown, prefix_shown}
use Rattle.seats.proofs.seat.Seat.agrees.Goals as goal

pub returns-clause-runs : goal.returns-clause-runs
returns-clause-runs g c = λ is before precedes.
    runs_shown c.own_entries_decide_the_node.ensures c.joined_histories_show.ensures.up c.args.self.now c.args.journal.now c.keeps_promises.ensures.followed
    (subst (λ (s : RunningSeat g.row.S.Denot). IsLed s) c.self.view_is c.self.invariant.1) (c.has_own.ensures.0 is).0 before precedes

pub returns-clause-prefix : goal.returns-clause-prefix
returns-clause-prefix g c = λ is before views values precedes led.
    prefix_shown c.own_entries_decide_the_node.ensures c.joined_histories_show.ensures.prefix c.args.self.now c.args.journal.now views values c.keeps_promises.ensures.followed led (c.has_own.ensures.0 is).0 before precedes
