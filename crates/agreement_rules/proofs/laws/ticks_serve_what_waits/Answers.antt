use Rattle.agreement_rules.proofs.Ticks.{serves_first, fills_gap, asks_on, out_of_range, takes_no_memory}
use Rattle.agreement_rules.proofs.laws.ticks_serve_what_waits.Goals as goal

pub returns-clause-waiting : goal.returns-clause-waiting
returns-clause-waiting c = serves_first c.learned_is_one.ensures.learned

pub returns-clause-gap : goal.returns-clause-gap
returns-clause-gap c = λ config me views left plan values slot value none prefix behind learned due.
    fills_gap c.learned_is_one.ensures.learned config me views left plan none values prefix slot value behind learned due

pub returns-clause-no_gap : goal.returns-clause-no_gap
returns-clause-no_gap c = λ config me views left plan values none prefix none_behind due.
    asks_on c.learned_is_one.ensures.learned config me views left plan none values prefix none_behind due

pub returns-clause-out_of_range : goal.returns-clause-out_of_range
returns-clause-out_of_range c = out_of_range

pub returns-clause-memory : goal.returns-clause-memory
returns-clause-memory c = takes_no_memory
