use Rattle.acceptor.specs.AcceptorState.{at}
use Rattle.acceptor.specs.Ranges.{ranged_at}
use Rattle.acceptor.proofs.Promising.{highest_of_both}
use Rattle.acceptor.proofs.acceptor.Acceptor.highest_from.Goals as goal

pub returns : goal.returns
returns c =
    rw (← c.self.view_is, c.higher_of.ensures)
    (highest_of_both (at c.self.inside.promises.entries) (ranged_at c.self.inside.ranges.ranges) c.args.first c.highest_promise_from.result c.highest.result c.highest_promise_from.ensures.highest
    (c.highest.ensures c.args.first c.highest_promise_from.ensures.within))
