use Rattle.histories.specs.Following.{at_first}
use Rattle.histories.specs.Owning.{own}
use Rattle.histories.proofs.Own.{own_leaves}
use Rattle.histories.proofs.Keeping.{TicksKeep, PartsKeep, kept_from_nothing}
use Rattle.histories.proofs.laws.records_are_kept.Goals as goal

pub returns : goal.returns
returns c = λ config sent steps recovered seats node member reaches.
    let ticks : TicksKeep = λ config me views left plan is_due.
    let keeps = c.plans_keep_what_they_send.ensures.tick config me views left plan is_due in
    record { sends = keeps.0; records = keeps.1 } in
    let parts : PartsKeep = λ config me views sender slot b plan is_due.
    let keeps = c.plans_keep_what_they_send.ensures.body config me views sender slot b plan is_due in
    record { sends = keeps.0; records = keeps.1 } in
    kept_from_nothing ticks parts config (own node sent steps recovered) (seats node)
    (own_leaves config sent node member steps recovered at_first seats 0 reaches)
