use Rattle.std.proofs.Common.{sym, ◌∙◌}
use Rattle.histories.specs.Due.{Deliver}
use Rattle.histories.specs.EventResult as results
use Rattle.stored_nodes.proofs.Leaving.{viewed_node}
use Rattle.stored_nodes.proofs.Applying.{cut_behind, cut_delivered}
use Rattle.stored_nodes.proofs.stored_node.StoredNode.cut_delivery.Goals as goal

pub returns-in-Ok : goal.returns-in-Ok
returns-in-Ok g c = λ views placed up.
    cut_delivered c.args.self.now c.cut.new.self c.args.sent.now views c.args.number c.in-Ok.message results.Done c.in-Ok.ensures
    (cut_behind c.args.self.now c.cut.new.self c.args.sent.now views (Deliver c.in-Ok.message) c.cut.result placed up (c.cut.ensures views up))

pub returns-in-Err : goal.returns-in-Err
returns-in-Err g c = λ views placed up.
    c.cut_unhanded.ensures c.in-Some.node c.args.sent.now c.args.number (sym (viewed_node c.self.view_is) ∙ c.in-Some.is) c.in-Err.ensures views placed up
