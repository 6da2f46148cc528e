use Rattle.std.proofs.Common.{sym, subst}
use Rattle.agreement_rules.specs.Views.{Views}
use Rattle.node_core.specs.declared.plan.Planned.TheVariants.{Waits}
use Rattle.node_core.specs.State.{NodeState, NodeHas}
use Rattle.node_core.specs.Plans.{CanCommit, LeadsTo}
use Rattle.node_core.proofs.Leading.{node_of, then_waits}
use Rattle.node_core.proofs.node.Node.wait.Goals as goal

pub invariant_of-self : goal.invariant_of-self
invariant_of-self c =
    let can = subst (λ (s : NodeState). CanCommit s (Waits c.args.upload)) (sym c.self.view_is) c.requires in (
      can.after,
      then_waits c.prefixes_are_one.ensures.one c.learned_is_one.ensures.learned c.uploads_have_one_encoding.ensures c.texts_hold_one_list_of_uploads.ensures.one
          c.self.inside.agreement c.self.inside.tables c.self.inside.waiting c.push.new.self c.args.upload c.push.ensures.texts can.views can.after can.has can.leads,
    )

pub returns-clause-stands : goal.returns-clause-stands
returns-clause-stands c =
    subst (λ (s : NodeState). (views after : Views) → NodeHas s views → LeadsTo s.agreement.config views (Waits c.args.upload) after
    → NodeHas (node_of c.self.inside.agreement c.self.inside.tables c.push.new.self) after) c.self.view_is
    (then_waits c.prefixes_are_one.ensures.one c.learned_is_one.ensures.learned c.uploads_have_one_encoding.ensures c.texts_hold_one_list_of_uploads.ensures.one
    c.self.inside.agreement c.self.inside.tables c.self.inside.waiting c.push.new.self c.args.upload c.push.ensures.texts)
