use Rattle.std.proofs.Common.{Ok, sym, subst}
use Rattle.agreement.specs.declared.refusal.Refusal.TheVariants.{OutOfMemory}
use Rattle.node_core.specs.State.{NodeState}
use Rattle.node_core.specs.Plans.{TickGives}
use Rattle.node_core.proofs.Beginning.{RequiresGap, handed_on, gap_told, no_gap_told, question_due, question_refused}
use Rattle.node_core.proofs.Leading.{node_of}
use Rattle.node_core.proofs.node.Node.step_of_tick.Goals as goal

pub attempt_noop-requires-clause-gap : goal.attempt_noop-requires-clause-gap
attempt_noop-requires-clause-gap c =
    subst RequiresGap c.self.view_is
    (gap_told (node_of c.self.inside.agreement c.self.inside.tables c.self.inside.waiting) c.has_gap.result c.has_gap.ensures c.if-has_gap.true)

pub returns-in_err-plan_ask-in-None-2-clause-gives : goal.returns-in_err-plan_ask-in-None-2-clause-gives
returns-in_err-plan_ask-in-None-2-clause-gives c =
    let state = node_of c.self.inside.agreement c.self.inside.tables c.self.inside.waiting in
    subst (λ (s : NodeState). TickGives s c.args.left c.from_residual.result) c.self.view_is
    (subst (TickGives state c.args.left) (sym (handed_on c.from_residual.result OutOfMemory c.from_residual.ensures.1))
    (question_refused state c.args.left c.requires.within c.in-None-2.ensures.first
    (no_gap_told state c.has_gap.result c.has_gap.ensures c.if-has_gap.false) c.in_err-plan_ask-in-None-2.ensures.memory))

pub returns-in_ok-plan_ask-in-None-2-clause-gives : goal.returns-in_ok-plan_ask-in-None-2-clause-gives
returns-in_ok-plan_ask-in-None-2-clause-gives c =
    let state = node_of c.self.inside.agreement c.self.inside.tables c.self.inside.waiting in
    subst (λ (s : NodeState). TickGives s c.args.left (Ok c.in_ok-plan_ask-in-None-2.field-0)) c.self.view_is
    (question_due state c.args.left c.requires.within c.in-None-2.ensures.first
    (no_gap_told state c.has_gap.result c.has_gap.ensures c.if-has_gap.false) c.in_ok-plan_ask-in-None-2.field-0 c.in_ok-plan_ask-in-None-2.ensures.gives)
