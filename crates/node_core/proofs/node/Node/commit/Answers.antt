use Rattle.std.proofs.Common.{sym, ap, subst, ◌∙◌}
use Rattle.node_core.specs.declared.plan.Planned.{Planned}
use Rattle.node_core.specs.declared.plan.Planned.TheVariants.{Waits, Steps}
use Rattle.node_core.specs.Plans.{LeadsTo}
use Rattle.node_core.proofs.Leading.{leads_as}
use Rattle.node_core.proofs.node.Node.commit.Goals as goal

pub returns-in-Waits-clause-stands : goal.returns-in-Waits-clause-stands
returns-in-Waits-clause-stands c = λ views after has leads.
    c.wait.ensures.stands views after has
    (subst (λ (p : Planned). LeadsTo c.args.self.now.agreement.config views p after)
    (sym c.plan.view_is ∙ (c.in-Waits.is ∙ ap (λ u. Waits u) (sym c.in-Waits.upload-is))) leads)

pub returns-in-Steps-clause-stands : goal.returns-in-Steps-clause-stands
returns-in-Steps-clause-stands c = λ views after has leads.
    c.step.ensures.stands views after has
    (subst (λ (p : Planned). LeadsTo c.args.self.now.agreement.config views p after)
    (sym c.plan.view_is ∙ (c.in-Steps.is ∙ ap (λ s. Steps s) (sym c.in-Steps.step-is))) leads)

pub returns-in-Learns-clause-stands : goal.returns-in-Learns-clause-stands
returns-in-Learns-clause-stands c = λ views after has leads.
    c.learn.ensures.stands views after has
    (leads_as c.args.self.now.agreement.config views after c.in-Learns.step c.in-Learns.ready c.in-Learns.step-is c.in-Learns.ready-is
    (subst (λ (p : Planned). LeadsTo c.args.self.now.agreement.config views p after) (sym c.plan.view_is ∙ c.in-Learns.is) leads))
