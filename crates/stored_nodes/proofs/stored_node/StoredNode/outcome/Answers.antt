use Rattle.std.proofs.Common.{refl, ap, subst}
use Rattle.table_versions.specs.Outcomes.{told}
use Rattle.histories.specs.Event as events
use Rattle.histories.specs.EventResult as results
use Rattle.histories.specs.Following.{OutcomeGives}
use Rattle.stored_nodes.specs.State.{StoredNodeState}
use Rattle.stored_nodes.specs.Steps.{QuietApplies}
use Rattle.stored_nodes.proofs.Applying.{answered}
use Rattle.stored_nodes.specs.contracts.stored_node.StoredNode.{the_view}
use Rattle.stored_nodes.proofs.stored_node.StoredNode.outcome.Goals as goal

pub returns-in-Some : goal.returns-in-Some
returns-in-Some g c =
    let given = results.Outcome (told c.outcome.result) in
    let text = c.args.upload.now in
    let upload = c.as_slice-text.ensures.upload in
    subst (λ (s : StoredNodeState g.row.S.Denot). QuietApplies s s (events.Outcome s.me text) given) c.self.view_is
    (λ before views placed up. answered (the_view g.row.S g.S.Stable c.self.inside) before views given (λ uploads. OutcomeGives uploads text)
    placed up c.in-Some.node c.in-Some.is (λ uploads gives. refl)
    (λ uploads has of. (upload.0, upload.1, ap (λ o. results.Outcome o) (c.outcome.ensures views uploads upload.0 has of upload.1))))
