use Rattle.std.proofs.Common.{refl, sym, ap, subst}
use Rattle.histories.specs.Event as events
use Rattle.histories.specs.EventResult as results
use Rattle.node_events.specs.Told.{event_of}
use Rattle.stored_nodes.specs.Steps.{DownAnswers}
use Rattle.stored_nodes.proofs.Arms.{for_down, down_restarts}
use Rattle.stored_nodes.proofs.stored_node.StoredNode.apply_down.Goals as goal

pub returns-in-Restart-clause-gives : goal.returns-in-Restart-clause-gives
returns-in-Restart-clause-gives g c =
    subst (λ (e : events.Event). DownAnswers c.args.self.now c.restart.new.self e c.restart.result) (sym (ap event_of c.in-Restart.is))
    (down_restarts c.args.self.now c.restart.new.self c.in-Restart.field-0 c.restart.result c.restart.ensures.gives)

pub returns-in_default-clause-gives : goal.returns-in_default-clause-gives
returns-in_default-clause-gives g c = for_down c.args.self.now c.args.event.now (results.Refused results.Down) c.in_default.not-Restart refl
