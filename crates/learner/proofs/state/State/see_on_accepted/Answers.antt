use Rattle.std.proofs.Common.{[], ◌∷◌, ◌++◌, sym, subst, ap, ◌∙◌, unwrap_or, arith}
use Rattle.learner.specs.Calls.{Accepted, IsLearned}
use Rattle.learner.proofs.Lookups.{not_both, read_or, chosen_same, chosen_back}
use Rattle.learner.proofs.Learning.{same_learnt, learnt_closed, settles_nothing, learned_by_vote, unsettled_by_vote}
use Rattle.learner.proofs.state.State.see_on_accepted.Goals as goal

pub returns-then-not-is_open_to-clause-told : goal.returns-then-not-is_open_to-clause-told
returns-then-not-is_open_to-clause-told c = λ n calls l.
    settles_nothing n calls _ c.args.slot c.args.self.now l
    (learnt_closed n calls c.args.acceptor c.args.slot c.args.ballot c.args.value.now c.args.self.now l
    (λ open'. not_both _ (c.is_open_to.ensures.1 open') c.if-not-is_open_to.true))

pub returns-then-not-is_chosen_with-clause-told : goal.returns-then-not-is_chosen_with-clause-told
returns-then-not-is_chosen_with-clause-told c = λ n calls l.
    let is = c.is_open_to.ensures.0 c.if-not-is_open_to.false in
    let same = c.make_room.ensures.same in
    λ settled. absurd (unsettled_by_vote n calls c.args.acceptor c.args.slot c.args.ballot c.args.value.now c.make_room.new.self
    (same_learnt n calls _ _ same l) (same.decided c.args.slot ∙ is.1)
    (λ chosen. not_both _ (c.is_chosen_with.ensures.1 chosen) c.if-not-is_chosen_with.true) settled)

pub returns-clause-told : goal.returns-clause-told
returns-clause-told c = λ n calls l.
    let is = c.is_open_to.ensures.0 c.if-not-is_open_to.false in
    let same = c.make_room.ensures.same in
    let learned = learned_by_vote n calls c.args.acceptor c.args.slot c.args.ballot c.args.value.now c.make_room.new.self (same_learnt n calls _ _ same l) (same.decided c.args.slot ∙ is.1) (omega (arith, is.0, same.members)) (c.is_chosen_with.ensures.0 c.if-not-is_chosen_with.false) in
    let told = c.in_ok-copy_of.ensures ∙ ap (λ r. r.now) c.unwrap_or-first.ensures ∙ read_or c.first.result c.args.value ∙ ap (λ o. unwrap_or o c.args.value.now) c.first.ensures in
    (l.unsettled c.args.slot is.1, subst (IsLearned n (calls ++ Accepted c.args.acceptor c.args.slot c.args.ballot c.args.value.now ∷ []) c.args.slot) (sym told) learned)

pub returns-then-not-is_open_to-clause-now : goal.returns-then-not-is_open_to-clause-now
returns-then-not-is_open_to-clause-now c = λ member none chosen.
    not_both _ (c.is_open_to.ensures.1 (member, none)) c.if-not-is_open_to.true

pub returns-then-not-is_chosen_with-clause-now : goal.returns-then-not-is_chosen_with-clause-now
returns-then-not-is_chosen_with-clause-now c = λ member none chosen.
    not_both _ (c.is_chosen_with.ensures.1 (chosen_back c.args.self.now c.make_room.new.self c.args.acceptor c.args.slot c.args.ballot c.make_room.ensures.same chosen)) c.if-not-is_chosen_with.true

pub returns-clause-now : goal.returns-clause-now
returns-clause-now c =
    let is = c.is_open_to.ensures.0 c.if-not-is_open_to.false in
    let same = c.make_room.ensures.same in
    let told = c.in_ok-copy_of.ensures ∙ ap (λ r. r.now) c.unwrap_or-first.ensures ∙ read_or c.first.result c.args.value ∙ ap (λ o. unwrap_or o c.args.value.now) c.first.ensures in (
      is.0,
      is.1,
      chosen_same c.args.self.now c.make_room.new.self c.args.acceptor c.args.slot c.args.ballot same (c.is_chosen_with.ensures.0 c.if-not-is_chosen_with.false),
      told ∙ ap (λ o. unwrap_or o c.args.value.now) (same.firsts c.args.slot c.args.ballot),
    )
