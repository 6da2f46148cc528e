use Rattle.histories.specs.Following.{at_first}
use Rattle.cut_histories.proofs.Saying.{KeepingLaws}
use Rattle.cut_histories.proofs.Moving.{ReachingLaws}
use Rattle.cut_histories.proofs.Settled.{may_have_sent}
use Rattle.cut_histories.proofs.laws.a_cut_may_have_sent.Goals as goal

pub returns : goal.returns
returns c =
    let keeping : KeepingLaws = record {
      tick = λ config me views left plan is_due.
          let keeps = c.plans_keep_what_they_send.ensures.tick config me views left plan is_due in
          record { sends = keeps.0; records = keeps.1; own = λ m has. c.replies_are_its_own.ensures.tick config me views left plan m is_due has };
      part = λ config me views sender slot b plan is_due.
          let keeps = c.plans_keep_what_they_send.ensures.body config me views sender slot b plan is_due in
          record { sends = keeps.0; records = keeps.1; own = λ m has. c.replies_are_its_own.ensures.body config me views sender slot b plan m is_due has };
    } in
    let laws : ReachingLaws = record {
      alone = c.a_member_steps_alone.ensures;
      further = λ config. c.one_step_more_reaches.ensures config at_first;
    } in
    may_have_sent keeping laws
