use Rattle.node_threads.proofs.Telling.{told_so}
use Rattle.node_threads.proofs.locks.take_prepared.Goals as goal

pub returns : goal.returns
returns g c =
    told_so c.args.seat.now c.take.new.self c.args.journal.now c.take.new.journal c.args.prepared c.in_ok-receipt.receipt c.sent_count-first.result c.sent_count-next.result
    c.in_ok-receipt.ensures.gives.2 c.sent_count-first.ensures c.sent_count-next.ensures
