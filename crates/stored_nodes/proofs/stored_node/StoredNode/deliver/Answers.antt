use Rattle.std.proofs.Common.{List, Some, Err, slice_get, sym, subst, ◌≡◌, ◌∙◌}
use Rattle.ballots.specs.declared.message.Message.{Message}
use Rattle.stored_nodes.specs.Steps.{HandsMessage}
use Rattle.stored_nodes.proofs.Leaving.{viewed_node}
use Rattle.stored_nodes.proofs.Applying.{delivery_answers, not_handed}
use Rattle.stored_nodes.proofs.stored_node.StoredNode.deliver.Goals as goal

pub returns-in-Ok-clause-gives : goal.returns-in-Ok-clause-gives
returns-in-Ok-clause-gives g c =
    delivery_answers c.args.self.now c.step.new.self c.args.sent.now.items c.step.new.sent.items c.args.number c.in-Ok.message c.step.result
    (subst (λ (ms : List Message). slice_get ms c.args.number ≡ Some c.in-Ok.message) c.as_slice.ensures.value c.in-Ok.ensures) c.step.ensures.gives

pub returns-in-Err-clause-gives : goal.returns-in-Err-clause-gives
returns-in-Err-clause-gives g c = λ views placed up.
    not_handed c.args.self.now c.args.sent.now.items views c.args.number placed up c.in-Some.node (sym (viewed_node c.self.view_is) ∙ c.in-Some.is) c.in-Err.reason
    (subst (λ (ms : List Message). HandsMessage c.in-Some.node.agreement.config ms c.args.number (Err c.in-Err.reason)) c.as_slice.ensures.value c.in-Err.ensures)
