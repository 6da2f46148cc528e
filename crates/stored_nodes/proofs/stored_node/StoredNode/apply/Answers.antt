use Rattle.std.proofs.Common.{sym, ap, ◌∙◌}
use Rattle.node_events.specs.Told.{event_of}
use Rattle.stored_nodes.proofs.Leaving.{viewed_node}
use Rattle.stored_nodes.proofs.Arms.{for_up, for_any_down, none_by, not_none}
use Rattle.stored_nodes.proofs.stored_node.StoredNode.apply.Goals as goal

pub returns-then-is_some-clause-gives : goal.returns-then-is_some-clause-gives
returns-then-is_some-clause-gives g c = λ placed mine seat stands.
    for_up c.args.self.now c.apply_up.new.self c.args.sent.now.items c.apply_up.new.sent.items (event_of c.args.event.now) c.apply_up.result
    (λ none. not_none c.self.inside.node (sym c.if-is_some.ensures) (viewed_node c.self.view_is ∙ none)) (c.apply_up.ensures.gives mine) placed seat stands

pub returns-else-is_some-clause-gives : goal.returns-else-is_some-clause-gives
returns-else-is_some-clause-gives g c = λ placed mine.
    for_any_down c.args.self.now c.apply_down.new.self c.args.sent.now.items (event_of c.args.event.now) c.apply_down.result
    (sym (viewed_node c.self.view_is) ∙ none_by c.self.inside.node (sym c.if-is_some.ensures)) c.apply_down.ensures.gives placed
