use Rattle.learner.specs.Calls.{Decided}
use Rattle.learner.specs.State.{decided_at}
use Rattle.learner.proofs.Adding.{nothing_is_decided, copy_is_decided}
use Rattle.learner.proofs.Lookups.{not_both}
use Rattle.learner.proofs.Learning.{learnt_over_learned, settles_nothing}
use Rattle.learner.proofs.OneValue.{learned_by_decision}
use Rattle.learner.proofs.state.State.see_on_decided.Goals as goal

pub returns-then-not-is_open-clause-room : goal.returns-then-not-is_open-clause-room
returns-then-not-is_open-clause-room c = λ none. absurd (not_both _ (c.is_open.ensures.1 none) c.if-not-is_open.true)

pub returns-then-not-is_open-clause-told : goal.returns-then-not-is_open-clause-told
returns-then-not-is_open-clause-told c = λ n calls l.
    settles_nothing n calls _ c.args.slot c.args.self.now l
    (learnt_over_learned n calls (Decided c.args.slot c.args.value.now) c.args.self.now l (λ none. not_both _ (c.is_open.ensures.1 none) c.if-not-is_open.true))

pub returns-clause-told : goal.returns-clause-told
returns-clause-told c = λ n calls l.
    let not = l.unsettled c.args.slot (c.is_open.ensures.0 c.if-not-is_open.false) in
    (not, rw c.in_ok-copy_of.ensures (learned_by_decision n calls c.args.slot c.args.value.now not))

pub returns-then-not-is_open-clause-now : goal.returns-then-not-is_open-clause-now
returns-then-not-is_open-clause-now c =
    nothing_is_decided (decided_at c.args.self.now c.args.slot) c.args.value.now (λ none. not_both _ (c.is_open.ensures.1 none) c.if-not-is_open.true)

pub returns-clause-now : goal.returns-clause-now
returns-clause-now c =
    copy_is_decided (decided_at c.args.self.now c.args.slot) c.args.value.now _ (c.is_open.ensures.0 c.if-not-is_open.false) c.in_ok-copy_of.ensures
