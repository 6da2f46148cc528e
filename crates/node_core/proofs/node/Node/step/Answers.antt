use Rattle.std.proofs.Common.{sym, subst}
use Rattle.agreement_rules.specs.Views.{Views}
use Rattle.node_core.specs.declared.plan.Planned.TheVariants.{Steps}
use Rattle.node_core.specs.State.{NodeState, NodeHas}
use Rattle.node_core.specs.Plans.{CanCommit, LeadsTo}
use Rattle.node_core.proofs.Leading.{node_of, then_steps}
use Rattle.node_core.proofs.node.Node.step.Goals as goal

pub invariant_of-self : goal.invariant_of-self
invariant_of-self c =
    let can = subst (λ (s : NodeState). CanCommit s (Steps c.args.step)) (sym c.self.view_is) c.requires in (
      can.after,
      then_steps c.self.inside.agreement c.commit.new.self c.self.inside.tables c.self.inside.waiting c.args.step
          (record { stands = c.commit.ensures.stands; config = c.commit.ensures.config }) can.views can.after can.has can.leads,
    )

pub returns-clause-stands : goal.returns-clause-stands
returns-clause-stands c =
    subst (λ (s : NodeState). (views after : Views) → NodeHas s views → LeadsTo s.agreement.config views (Steps c.args.step) after
    → NodeHas (node_of c.commit.new.self c.self.inside.tables c.self.inside.waiting) after) c.self.view_is
    (then_steps c.self.inside.agreement c.commit.new.self c.self.inside.tables c.self.inside.waiting c.args.step
    (record { stands = c.commit.ensures.stands; config = c.commit.ensures.config }))
