use Rattle.histories.specs.Following.{at_first}
use Rattle.node_core.proofs.Crashing.{crash_within, crash_between, left_in_keep}
use Rattle.node_core.proofs.laws.a_crash_is_a_cut.Goals as goal

pub returns-clause-within : goal.returns-clause-within
returns-clause-within g c = λ config sent steps recovered seats node views cut asked due store found member.
    crash_within c.a_member_steps_alone.ensures (λ config. c.one_step_more_reaches.ensures config at_first) c.records_are_kept.ensures config sent node member
    steps recovered seats views cut asked due (g.S.Stable.finds store) found

pub returns-clause-between : goal.returns-clause-between
returns-clause-between g c = λ config sent steps recovered seats node views store found member.
    crash_between c.a_member_steps_alone.ensures (λ config. c.one_step_more_reaches.ensures config at_first) c.records_are_kept.ensures config sent node member
    steps recovered seats views (g.S.Stable.finds store) found

pub returns-clause-left : goal.returns-clause-left
returns-clause-left g c = λ old new last answer found crash since.
    left_in_keep last answer (g.S.Stable.finds old) found (crash.leaves found since)
