use Rattle.std.proofs.Common.{List, ℕ, sym, ap, subst, ◌∙◌}
use Rattle.histories.specs.Event as events
use Rattle.histories.specs.EventResult as results
use Rattle.node_events.specs.Told.{reason_of}
use Rattle.stored_nodes.specs.Steps.{UpAnswers}
use Rattle.stored_nodes.proofs.Leaving.{viewed_node}
use Rattle.stored_nodes.proofs.Applying.{put_not_handed}
use Rattle.stored_nodes.proofs.stored_node.StoredNode.put.Goals as goal

pub returns-in-Ok-clause-gives : goal.returns-in-Ok-clause-gives
returns-in-Ok-clause-gives g c =
    subst (λ (text : List ℕ). UpAnswers c.args.self.now c.put_copy.new.self c.args.sent.now.items c.put_copy.new.sent.items (events.Put c.args.self.now.me text) c.put_copy.result)
    c.in-Ok.ensures.copy c.put_copy.ensures.gives

pub returns-in-Err-clause-gives : goal.returns-in-Err-clause-gives
returns-in-Err-clause-gives g c = λ views placed up.
    put_not_handed c.what_is_taken_is_allowed.ensures c.args.self.now c.args.sent.now.items views c.args.upload.now c.in-Err.refusal (results.Refused (reason_of c.reason_for.result)) placed up
    c.in-Some.node (sym (viewed_node c.self.view_is) ∙ c.in-Some.is) (λ has. c.in-Err.ensures.refused views has)
    (ap (λ r. results.Refused r) c.reason_for.ensures.due)
