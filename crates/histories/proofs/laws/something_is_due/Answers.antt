use Rattle.histories.proofs.Within.{reached_sound}
use Rattle.histories.proofs.SomeDue.{SomeDueLaws, some_due}
use Rattle.histories.proofs.laws.something_is_due.Goals as goal

pub returns : goal.returns
returns c = λ config sent steps recovered seats node views asked reaches up well no.
    let laws : SomeDueLaws = record {
      tick = λ cfg me v left free none. c.something_is_due.ensures.tick cfg me v left free (λ due is. none (due, is));
      part = λ cfg me v sender slot said none. c.something_is_due.ensures.body cfg me v sender slot said (λ plan is. none (plan, is));
      learned = c.learned_is_decided_or_chosen.ensures.only;
    } in
    some_due laws config node views (reached_sound c.messages_are_told_to_their_part.ensures config sent steps recovered seats reaches node views up) asked well
    (λ it. no it.0 it.1)
