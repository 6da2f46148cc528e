use Rattle.node_threads.proofs.Telling.{handed_so}
use Rattle.node_threads.proofs.workplace.NodeWorkplaceWorkplace.hand.Goals as goal

pub returns-in-Ok : goal.returns-in-Ok
returns-in-Ok g c =
    handed_so c.args.input c.input_of.result c.in-Ok.taken c.sent_by.result c.input_of.ensures c.in-Ok.ensures c.sent_by.ensures.first c.sent_by.ensures.next
