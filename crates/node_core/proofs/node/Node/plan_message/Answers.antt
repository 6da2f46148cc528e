use Rattle.std.proofs.Common.{◌+◌, ◌≤◌, List, length, Ok, refl, sym, subst}
use Rattle.agreement_rules.specs.Views.{Views}
use Rattle.histories.specs.Due.{Deliver}
use Rattle.ballots.specs.declared.value.Value.{Value}
use Rattle.table_versions.specs.State.{agreed_values_limit, IsReadyFor}
use Rattle.node_core.specs.declared.plan.Planned.TheVariants.{Steps, Learns}
use Rattle.node_core.specs.State.{NodeState, NodeHas}
use Rattle.node_core.specs.Plans.{PlanGives}
use Rattle.node_core.proofs.Leading.{node_of}
use Rattle.node_core.proofs.Standing.{stands_on, same_as_it_is, can_commit}
use Rattle.node_core.proofs.Messages.{step_planned, learning_planned, ready_fits, no_items, some_items}
use Rattle.node_core.proofs.node.Node.plan_message.Goals as goal

-- ---- where the message is refused

pub invariant_of-self : goal.invariant_of-self
invariant_of-self c =
    let has = c.self.invariant in (
      has.0,
      stands_on c.self.inside.agreement c.plan_message.new.self c.self.inside.tables c.self.inside.tables c.self.inside.waiting c.self.inside.waiting
          c.in_err-step.ensures.err c.in_err-step.ensures.config (same_as_it_is c.self.inside.tables) refl has.0 has.1,
    )

pub returns-in_err-step-clause-same : goal.returns-in_err-step-clause-same
returns-in_err-step-clause-same c =
    subst (λ (s : NodeState). (views : Views) → NodeHas s views → NodeHas (node_of c.plan_message.new.self c.self.inside.tables c.self.inside.waiting) views) c.self.view_is
    (stands_on c.self.inside.agreement c.plan_message.new.self c.self.inside.tables c.self.inside.tables c.self.inside.waiting c.self.inside.waiting
    c.in_err-step.ensures.err c.in_err-step.ensures.config (same_as_it_is c.self.inside.tables) refl)

-- ---- where the prefix stays

pub invariant_of-self-then-is_empty : goal.invariant_of-self-then-is_empty
invariant_of-self-then-is_empty c =
    let has = c.self.invariant in (
      has.0,
      stands_on c.self.inside.agreement c.plan_message.new.self c.self.inside.tables c.self.inside.tables c.self.inside.waiting c.self.inside.waiting
          c.in_ok-step.ensures.ready.same c.in_ok-step.ensures.config (same_as_it_is c.self.inside.tables) refl has.0 has.1,
    )

pub returns-then-is_empty-clause-gives : goal.returns-then-is_empty-clause-gives
returns-then-is_empty-clause-gives c =
    subst (λ (s : NodeState). PlanGives s (Deliver c.args.message) (Ok (Steps c.in_ok-step.step))) c.self.view_is
    (λ views has. step_planned (node_of c.self.inside.agreement c.self.inside.tables c.self.inside.waiting) views has c.args.message c.in_ok-step.step
    c.in_ok-step.ensures.gives.0 (c.in_ok-step.ensures.gives.1 views has.agrees) (no_items c.as_slice-grown.result.now c.in_ok-step.step.grown.items c.is_empty.result c.as_slice-grown.ensures.value c.is_empty.ensures c.if-is_empty.true))

pub returns-then-is_empty-clause-can : goal.returns-then-is_empty-clause-can
returns-then-is_empty-clause-can c =
    let has = c.self.invariant in
    let planned = step_planned (node_of c.self.inside.agreement c.self.inside.tables c.self.inside.waiting) has.0 has.1 c.args.message c.in_ok-step.step
    c.in_ok-step.ensures.gives.0 (c.in_ok-step.ensures.gives.1 has.0 has.1.agrees) (no_items c.as_slice-grown.result.now c.in_ok-step.step.grown.items c.is_empty.result c.as_slice-grown.ensures.value c.is_empty.ensures c.if-is_empty.true) in
    can_commit c.self.inside.agreement c.plan_message.new.self c.self.inside.tables c.self.inside.tables c.self.inside.waiting c.self.inside.waiting
    c.in_ok-step.ensures.ready.same c.in_ok-step.ensures.config (same_as_it_is c.self.inside.tables) refl has.0 has.1 (Deliver c.args.message) (Steps c.in_ok-step.step) planned c.in_ok-step.ensures.ready.can

pub returns-then-is_empty-clause-same : goal.returns-then-is_empty-clause-same
returns-then-is_empty-clause-same c =
    subst (λ (s : NodeState). (views : Views) → NodeHas s views → NodeHas (node_of c.plan_message.new.self c.self.inside.tables c.self.inside.waiting) views) c.self.view_is
    (stands_on c.self.inside.agreement c.plan_message.new.self c.self.inside.tables c.self.inside.tables c.self.inside.waiting c.self.inside.waiting
    c.in_ok-step.ensures.ready.same c.in_ok-step.ensures.config (same_as_it_is c.self.inside.tables) refl)

-- ---- where it grows

pub ready_with-requires : goal.ready_with-requires
ready_with-requires c =
    let has = c.self.invariant in
    subst (λ (l : List Value). c.self.inside.tables.taken + length l ≤ agreed_values_limit) (sym c.as_slice-grown.ensures.value)
    (ready_fits c.learned_where_chosen_or_decided.ensures.learned c.learned_where_chosen_or_decided.ensures.settled c.states_are_what_was_learned.ensures.decided
    (node_of c.self.inside.agreement c.self.inside.tables c.self.inside.waiting) has.0 has.1 c.args.message c.in_ok-step.step
    c.in_ok-step.ensures.gives.0 (c.in_ok-step.ensures.gives.1 has.0 has.1.agrees))

pub invariant_of-self-in_err-ready : goal.invariant_of-self-in_err-ready
invariant_of-self-in_err-ready c =
    let has = c.self.invariant in (
      has.0,
      stands_on c.self.inside.agreement c.plan_message.new.self c.self.inside.tables c.ready_with.new.self c.self.inside.waiting c.self.inside.waiting
          c.in_ok-step.ensures.ready.same c.in_ok-step.ensures.config c.ready_with.ensures.same refl has.0 has.1,
    )

pub returns-in_err-ready-clause-same : goal.returns-in_err-ready-clause-same
returns-in_err-ready-clause-same c =
    subst (λ (s : NodeState). (views : Views) → NodeHas s views → NodeHas (node_of c.plan_message.new.self c.ready_with.new.self c.self.inside.waiting) views) c.self.view_is
    (stands_on c.self.inside.agreement c.plan_message.new.self c.self.inside.tables c.ready_with.new.self c.self.inside.waiting c.self.inside.waiting
    c.in_ok-step.ensures.ready.same c.in_ok-step.ensures.config c.ready_with.ensures.same refl)

pub invariant_of-self-2 : goal.invariant_of-self-2
invariant_of-self-2 c =
    let has = c.self.invariant in (
      has.0,
      stands_on c.self.inside.agreement c.plan_message.new.self c.self.inside.tables c.ready_with.new.self c.self.inside.waiting c.self.inside.waiting
          c.in_ok-step.ensures.ready.same c.in_ok-step.ensures.config c.ready_with.ensures.same refl has.0 has.1,
    )

pub returns-clause-gives : goal.returns-clause-gives
returns-clause-gives c =
    subst (λ (s : NodeState). PlanGives s (Deliver c.args.message) (Ok (Learns c.in_ok-step.step c.in_ok-ready.ready))) c.self.view_is
    (λ views has. learning_planned c.texts_hold_one_list_of_uploads.ensures.both (node_of c.self.inside.agreement c.self.inside.tables c.self.inside.waiting) views has c.args.message c.in_ok-step.step
    c.in_ok-ready.ready c.in_ok-step.ensures.gives.0 (c.in_ok-step.ensures.gives.1 views has.agrees) (some_items c.as_slice-grown.result.now c.in_ok-step.step.grown.items c.is_empty.result c.as_slice-grown.ensures.value c.is_empty.ensures c.if-is_empty.false) (subst (IsReadyFor c.in_ok-ready.ready) c.as_slice-grown.ensures.value c.in_ok-ready.ensures.ready))

pub returns-clause-can : goal.returns-clause-can
returns-clause-can c =
    let has = c.self.invariant in
    let planned = learning_planned c.texts_hold_one_list_of_uploads.ensures.both (node_of c.self.inside.agreement c.self.inside.tables c.self.inside.waiting) has.0 has.1 c.args.message c.in_ok-step.step
    c.in_ok-ready.ready c.in_ok-step.ensures.gives.0 (c.in_ok-step.ensures.gives.1 has.0 has.1.agrees) (some_items c.as_slice-grown.result.now c.in_ok-step.step.grown.items c.is_empty.result c.as_slice-grown.ensures.value c.is_empty.ensures c.if-is_empty.false) (subst (IsReadyFor c.in_ok-ready.ready) c.as_slice-grown.ensures.value c.in_ok-ready.ensures.ready) in
    can_commit c.self.inside.agreement c.plan_message.new.self c.self.inside.tables c.ready_with.new.self c.self.inside.waiting c.self.inside.waiting
    c.in_ok-step.ensures.ready.same c.in_ok-step.ensures.config c.ready_with.ensures.same refl has.0 has.1 (Deliver c.args.message) (Learns c.in_ok-step.step c.in_ok-ready.ready) planned
    (record { steps = c.in_ok-step.ensures.ready.can; takes = c.in_ok-ready.ensures.can; is_ready = subst (IsReadyFor c.in_ok-ready.ready) c.as_slice-grown.ensures.value c.in_ok-ready.ensures.ready })

pub returns-clause-same : goal.returns-clause-same
returns-clause-same c =
    subst (λ (s : NodeState). (views : Views) → NodeHas s views → NodeHas (node_of c.plan_message.new.self c.ready_with.new.self c.self.inside.waiting) views) c.self.view_is
    (stands_on c.self.inside.agreement c.plan_message.new.self c.self.inside.tables c.ready_with.new.self c.self.inside.waiting c.self.inside.waiting
    c.in_ok-step.ensures.ready.same c.in_ok-step.ensures.config c.ready_with.ensures.same refl)
