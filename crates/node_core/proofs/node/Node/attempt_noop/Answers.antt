use Rattle.std.proofs.Common.{◌≡◌, [], sym, subst}
use Rattle.ballots.specs.declared.value.Value.TheVariants.{Noop}
use Rattle.node_core.specs.State.{NodeState}
use Rattle.node_core.specs.Plans.{TickGives}
use Rattle.node_core.proofs.Beginning.{RequiresGap, CanAttempt, RoundIsLeft, handed_on, none_begins, attempt_gives, aims_there, noop_aims}
use Rattle.node_core.proofs.Leading.{node_of}
use Rattle.node_core.proofs.node.Node.attempt_noop.Goals as goal

pub returns-in_err-slot-clause-gives : goal.returns-in_err-slot-clause-gives
returns-in_err-slot-clause-gives c = λ left within.
    let state = node_of c.self.inside.agreement c.self.inside.tables c.self.inside.waiting in
    let none = subst (λ (s : NodeState). s.waiting.texts ≡ []) (sym c.self.view_is) c.requires.none in
    let gap = subst RequiresGap (sym c.self.view_is) c.requires.gap in
    let fault = subst (λ (s : NodeState). CanAttempt s c.first_free.result c.in_err-slot.field-0.0) (sym c.self.view_is) c.in_err-slot.ensures.fault in
    subst (λ (s : NodeState). TickGives s left c.from_residual.result) c.self.view_is
    (subst (TickGives state left) (sym (handed_on c.from_residual.result c.in_err-slot.field-0.0 c.from_residual.ensures.1))
    (none_begins state left within Noop c.first_free.result c.in_err-slot.field-0.0 fault
    (noop_aims state left within none gap c.first_free.result c.first_free.ensures)))

pub returns-clause-gives : goal.returns-clause-gives
returns-clause-gives c = λ left within.
    let state = node_of c.self.inside.agreement c.self.inside.tables c.self.inside.waiting in
    let none = subst (λ (s : NodeState). s.waiting.texts ≡ []) (sym c.self.view_is) c.requires.none in
    let gap = subst RequiresGap (sym c.self.view_is) c.requires.gap in
    let round = subst RoundIsLeft (sym c.self.view_is) c.in_ok-slot.ensures.round in
    subst (λ (s : NodeState). TickGives s left c.plan_attempt.result) c.self.view_is
    (attempt_gives state left within Noop c.in_ok-slot.slot round
    (aims_there state left within Noop c.first_free.result c.in_ok-slot.slot c.in_ok-slot.ensures.slot
    (noop_aims state left within none gap c.first_free.result c.first_free.ensures))
    c.plan_attempt.result c.plan_attempt.ensures.gives)
