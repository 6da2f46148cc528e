use Rattle.std.proofs.Common.{true, false, subst}
use Rattle.node_core.specs.State.{NodeState}
use Rattle.node_core.proofs.Leading.{node_of}
use Rattle.node_core.proofs.Putting.{Knows, is_unknown, is_known}
use Rattle.node_core.proofs.node.Node.knows.Goals as goal

pub returns-in-Unknown : goal.returns-in-Unknown
returns-in-Unknown c =
    let is = c.as_slice-text.ensures.upload in
    subst (λ (s : NodeState). Knows s c.args.upload.now false) c.self.view_is
    (λ views has. is_unknown (node_of c.self.inside.agreement c.self.inside.tables c.self.inside.waiting) views has c.args.upload.now
    c.contains.result c.contains.ensures c.if-contains.false is c.outcome.result
    (λ values uploads upload taken are text. c.outcome.ensures values uploads upload taken are text.0 text.1) c.in-Unknown.is)

pub returns-in_default : goal.returns-in_default
returns-in_default c =
    let is = c.as_slice-text.ensures.upload in
    subst (λ (s : NodeState). Knows s c.args.upload.now true) c.self.view_is
    (λ views has. is_known (node_of c.self.inside.agreement c.self.inside.tables c.self.inside.waiting) views has c.args.upload.now
    is c.outcome.result
    (λ values uploads upload taken are text. c.outcome.ensures values uploads upload taken are text.0 text.1) c.in_default.not-Unknown)
