use Rattle.std.proofs.Common.{rules, arith, ◌≡◌, ◌+◌, ◌≤◌, List, length, sym, subst}
use Rattle.ballots.specs.declared.value.Value.{Value as Held}
use Rattle.agreement_rules.specs.Views.{Views, HasPrefix}
use Rattle.agreement.specs.State.{Has}
use Rattle.node_core.proofs.Free.{Passed, none_passed, goes_past, stays_past, this_one, past_all}
use Rattle.node_core.proofs.slots.slot_left.Goals.{in-Some, in-None, then-is_free+else-passed-left, else-is_free}
use Rattle.node_core.proofs.slots.slot_left.Goals as goal

pub loop-number-init : goal.loop-number-init
loop-number-init c =
    let first : (views : Views) (values : List Held) → Has c.args.agreement.now views → HasPrefix c.args.agreement.now.config.members views.learner_calls values
    → c.match-first_free.first ≡ length values =
    λ views values has prefix. let at = c.first_free.ensures views values has prefix in
    elim c.match-first_free.branch as (λ _. c.match-first_free.first ≡ length values) [
      | in-Some w ↦ search rules
      | in-None w ↦ search rules
    ] in (
      (λ views values has prefix. none_passed c.states_are_what_was_learned.ensures.decided c.args.agreement.now views has values prefix
          c.match-first_free.first (first views values has prefix)),
      omega arith,
    )

pub returns-then-passed-left : goal.returns-then-passed-left
returns-then-passed-left c =
    this_one c.states_are_what_was_learned.ensures.decided c.args.agreement.now c.loop-number.number c.in_ok-slot.slot c.loop-number.passed c.args.left
    c.is_free.result (search rules) c.is_free.ensures c.if-is_free.true (search rules) c.if-passed-left.true c.loop-number.invariant.0

pub overflow_add-passed : goal.overflow_add-passed
overflow_add-passed c = grind (arith, c.loop-number.invariant.1, c.if-passed-left.false, c.ranges.left.fits)

pub loop-number-preserved : goal.loop-number-preserved
loop-number-preserved c =
    let at : c.in_ok-slot.slot ≡ c.loop-number.number = search rules in
    elim c.if-is_free.branch as (λ _. Passed c.args.agreement.now (c.loop-number.number + 1) c.if-is_free.passed × (c.if-is_free.passed ≤ c.args.left)) [
      | then-is_free+else-passed-left w ↦ (
        subst (Passed c.args.agreement.now (c.loop-number.number + 1)) (sym w.passed-is)
            (goes_past c.states_are_what_was_learned.ensures.decided c.args.agreement.now c.loop-number.number c.in_ok-slot.slot c.loop-number.passed
            c.is_free.result at c.is_free.ensures w.if-is_free.true c.loop-number.invariant.0),
        omega (arith, w.passed-is, w.if-passed-left.false, c.loop-number.invariant.1),
      )
      | else-is_free w ↦ (
        subst (Passed c.args.agreement.now (c.loop-number.number + 1)) (sym w.passed-is)
            (stays_past c.states_are_what_was_learned.ensures.decided c.args.agreement.now c.loop-number.number c.in_ok-slot.slot c.loop-number.passed
            c.is_free.result at c.is_free.ensures w.if-is_free.false c.loop-number.invariant.0),
        omega (arith, w.passed-is, c.loop-number.invariant.1),
      )
    ]

pub returns : goal.returns
returns c =
    past_all c.states_are_what_was_learned.ensures.decided c.args.agreement.now c.loop-number.number c.loop-number.passed c.args.left
    (search rules) c.loop-number.invariant.1 c.loop-number.invariant.0
