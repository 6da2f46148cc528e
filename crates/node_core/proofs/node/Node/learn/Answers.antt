use Rattle.std.proofs.Common.{sym, subst}
use Rattle.agreement_rules.specs.Views.{Views}
use Rattle.node_core.specs.declared.plan.Planned.TheVariants.{Learns}
use Rattle.node_core.specs.State.{NodeState, NodeHas}
use Rattle.node_core.specs.Plans.{CanCommit, LeadsTo}
use Rattle.node_core.proofs.Leading.{node_of, then_learns}
use Rattle.node_core.proofs.node.Node.learn.Goals as goal

pub invariant_of-self : goal.invariant_of-self
invariant_of-self c =
    let can = subst (λ (s : NodeState). CanCommit s (Learns c.args.step c.args.ready)) (sym c.self.view_is) c.requires in (
      can.after,
      then_learns c.prefixes_are_one.ensures.one c.learned_is_one.ensures.learned c.uploads_have_one_encoding.ensures c.texts_hold_one_list_of_uploads.ensures.one
          c.self.inside.agreement c.commit.new.self c.self.inside.tables c.apply.new.self c.self.inside.waiting c.keep_unknown.new.self c.args.step c.args.ready can.room.is_ready
          (record { stands = c.commit.ensures.stands; config = c.commit.ensures.config }) c.apply.ensures.takes c.keep_unknown.ensures.texts can.views can.after can.has can.leads,
    )

pub returns-clause-stands : goal.returns-clause-stands
returns-clause-stands c =
    let can = subst (λ (s : NodeState). CanCommit s (Learns c.args.step c.args.ready)) (sym c.self.view_is) c.requires in
    subst (λ (s : NodeState). (views after : Views) → NodeHas s views → LeadsTo s.agreement.config views (Learns c.args.step c.args.ready) after
    → NodeHas (node_of c.commit.new.self c.apply.new.self c.keep_unknown.new.self) after) c.self.view_is
    (then_learns c.prefixes_are_one.ensures.one c.learned_is_one.ensures.learned c.uploads_have_one_encoding.ensures c.texts_hold_one_list_of_uploads.ensures.one
    c.self.inside.agreement c.commit.new.self c.self.inside.tables c.apply.new.self c.self.inside.waiting c.keep_unknown.new.self c.args.step c.args.ready can.room.is_ready
    (record { stands = c.commit.ensures.stands; config = c.commit.ensures.config }) c.apply.ensures.takes c.keep_unknown.ensures.texts)
