use Rattle.std.proofs.Common.{subst, Err}
use Rattle.node_events.specs.declared.event_result.Reason.{Reason}
use Rattle.stored_nodes.specs.Steps.{HandsMessage}
use Rattle.stored_nodes.proofs.Applying.{not_sent_stays, not_handed_cut}
use Rattle.stored_nodes.proofs.stored_node.StoredNode.cut_unhanded.Goals as goal

pub returns-in-NotSent : goal.returns-in-NotSent
returns-in-NotSent g c = λ node sent number here not views placed up.
    not_sent_stays c.args.self.now sent views number placed up (subst (λ (r : Reason). HandsMessage node.agreement.config sent number (Err r)) c.in-NotSent.is not)

pub returns-in_default : goal.returns-in_default
returns-in_default g c = λ node sent number here not views placed up.
    not_handed_cut c.records_are_due.ensures.taken c.args.self.now c.go_down.new.self sent views number placed up node here c.go_down.ensures
    c.args.reason c.in_default.not-NotSent not
