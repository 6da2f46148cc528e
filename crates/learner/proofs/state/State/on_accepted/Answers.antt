use Rattle.std.proofs.Common.{◌≡◌, Some, None, subst, ap, sym, refl, ◌∙◌, unwrap_or}
use Rattle.learner.specs.Changes.{Puts}
use Rattle.learner.proofs.Lookups.{not_both, puts_after_drops, nothing_now, something_now}
use Rattle.learner.proofs.Learning.{learnt_closed, learnt_chooses, learnt_counts}
use Rattle.learner.proofs.state.State.on_accepted.Goals as goal

pub returns-then-not-is_open_to-clause-learned : goal.returns-then-not-is_open_to-clause-learned
returns-then-not-is_open_to-clause-learned c = λ n calls l.
    learnt_closed n calls c.args.acceptor c.args.slot c.args.ballot c.args.value c.args.self.now l (λ open'. not_both _ (c.is_open_to.ensures.1 open') c.if-not-is_open_to.true)

pub returns-then-is_chosen_with-clause-learned : goal.returns-then-is_chosen_with-clause-learned
returns-then-is_chosen_with-clause-learned c = λ n calls l.
    let is = c.is_open_to.ensures.0 c.if-not-is_open_to.false in
    learnt_chooses n calls c.args.acceptor c.args.slot c.args.ballot c.args.value c.args.self.now l is.1 c.learn.new.self is.0 (c.is_chosen_with.ensures.0 c.if-is_chosen_with.true)
    (subst (Puts c.args.self.now c.learn.new.self c.args.slot) (c.unwrap_or-first.ensures ∙ ap (λ o. unwrap_or o c.args.value) c.take_first.ensures.value)
    (puts_after_drops _ _ _ c.args.slot _ c.take_first.ensures.drops c.learn.ensures))

pub returns-else-is_chosen_with-clause-learned : goal.returns-else-is_chosen_with-clause-learned
returns-else-is_chosen_with-clause-learned c = λ n calls l.
    let is = c.is_open_to.ensures.0 c.if-not-is_open_to.false in
    learnt_counts n calls c.args.acceptor c.args.slot c.args.ballot c.args.value c.args.self.now l is.1 c.count.new.self is.0 (λ chosen. not_both _ (c.is_chosen_with.ensures.1 chosen) c.if-is_chosen_with.false) c.count.ensures

pub returns-then-not-is_open_to-clause-stays : goal.returns-then-not-is_open_to-clause-stays
returns-then-not-is_open_to-clause-stays c = λ v is. is

pub returns-then-not-is_open_to-clause-others : goal.returns-then-not-is_open_to-clause-others
returns-then-not-is_open_to-clause-others c = λ other differs. refl

pub returns-then-is_chosen_with-clause-stays : goal.returns-then-is_chosen_with-clause-stays
returns-then-is_chosen_with-clause-stays c = λ v is.
    let none = (c.is_open_to.ensures.0 c.if-not-is_open_to.false).1 in
    absurd (let no : Some v ≡ None = sym is ∙ none in cc)

pub returns-then-is_chosen_with-clause-others : goal.returns-then-is_chosen_with-clause-others
returns-then-is_chosen_with-clause-others c = λ other differs.
    (puts_after_drops _ _ _ c.args.slot _ c.take_first.ensures.drops c.learn.ensures).decided other differs

pub returns-else-is_chosen_with-clause-stays : goal.returns-else-is_chosen_with-clause-stays
returns-else-is_chosen_with-clause-stays c = λ v is. c.count.ensures.decided c.args.slot ∙ is

pub returns-else-is_chosen_with-clause-others : goal.returns-else-is_chosen_with-clause-others
returns-else-is_chosen_with-clause-others c = λ other differs. c.count.ensures.decided other

pub returns-then-not-is_open_to-clause-here : goal.returns-then-not-is_open_to-clause-here
returns-then-not-is_open_to-clause-here c = λ told learns.
    nothing_now c.args.self.now c.args.self.now c.args.acceptor c.args.slot c.args.ballot c.args.value told refl
    (λ member none chosen. not_both _ (c.is_open_to.ensures.1 (member, none)) c.if-not-is_open_to.true) learns

pub returns-then-is_chosen_with-clause-here : goal.returns-then-is_chosen_with-clause-here
returns-then-is_chosen_with-clause-here c = λ told learns.
    let is = c.is_open_to.ensures.0 c.if-not-is_open_to.false in
    let puts : Puts c.args.self.now c.learn.new.self c.args.slot _ =
    subst (Puts c.args.self.now c.learn.new.self c.args.slot) (c.unwrap_or-first.ensures ∙ ap (λ o. unwrap_or o c.args.value) c.take_first.ensures.value)
    (puts_after_drops _ _ _ c.args.slot _ c.take_first.ensures.drops c.learn.ensures) in
    something_now c.args.self.now c.learn.new.self c.args.acceptor c.args.slot c.args.ballot c.args.value told is.0 is.1 (c.is_chosen_with.ensures.0 c.if-is_chosen_with.true) puts.here learns

pub returns-else-is_chosen_with-clause-here : goal.returns-else-is_chosen_with-clause-here
returns-else-is_chosen_with-clause-here c = λ told learns.
    nothing_now c.args.self.now c.count.new.self c.args.acceptor c.args.slot c.args.ballot c.args.value told (c.count.ensures.decided c.args.slot)
    (λ member none chosen. not_both _ (c.is_chosen_with.ensures.1 chosen) c.if-is_chosen_with.false) learns
