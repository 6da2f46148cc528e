use Rattle.std.proofs.Common.{subst}
use Rattle.histories.specs.Event as events
use Rattle.histories.specs.Following.{InfoGivesIfAble}
use Rattle.node_events.specs.Told.{result_of}
use Rattle.stored_nodes.specs.State.{StoredNodeState}
use Rattle.stored_nodes.specs.Steps.{QuietApplies}
use Rattle.stored_nodes.proofs.Applying.{answered, info_counts}
use Rattle.stored_nodes.specs.contracts.stored_node.StoredNode.{the_view}
use Rattle.stored_nodes.proofs.stored_node.StoredNode.info.Goals as goal

pub returns-in-Some : goal.returns-in-Some
returns-in-Some g c =
    let given = result_of c.latest_asked.result in
    let table = c.args.table.now in
    subst (λ (s : StoredNodeState g.row.S.Denot). QuietApplies s s (events.Info s.me table) given) c.self.view_is
    (λ before views placed up. answered (the_view g.row.S g.S.Stable c.self.inside) before views given (λ uploads. InfoGivesIfAble uploads table)
    placed up c.in-Some.node c.in-Some.is (info_counts table given)
    (λ uploads has of. c.latest_asked.ensures views uploads has of))
