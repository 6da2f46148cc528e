use Rattle.node_threads.proofs.Telling.{got_at}
use Rattle.node_threads.proofs.cluster.Cluster.get.Goals as goal

pub returns-in-Ok : goal.returns-in-Ok
returns-in-Ok g c =
    got_at c.args.node c.args.ticket c.in_ok-receipt.receipt c.in-Answer.answer c.in-Ok.copy c.in_ok-receipt.ensures c.in-Answer.is c.in-Ok.ensures
