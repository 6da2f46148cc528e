use Rattle.std.proofs.Common.{ap}
use Rattle.agreement_rules.proofs.Replies.{sends_of, of_itself, of_its_slot, ticks_itself}
use Rattle.agreement_rules.proofs.laws.replies_are_its_own.Goals as goal

pub returns-clause-body : goal.returns-clause-body
returns-clause-body c = λ config me views sender slot said plan m due has.
    of_itself c.majorities_are_of_members.ensures.majority config me views sender slot plan said due m has

pub returns-clause-tick : goal.returns-clause-tick
returns-clause-tick c = λ config me views left plan m due has. ticks_itself config me views left plan due m has

pub returns-clause-slot : goal.returns-clause-slot
returns-clause-slot c = λ config me views sender slot said plan m not due has.
    (of_its_slot c.majorities_are_of_members.ensures.majority config me views sender slot plan said not due m has).1

pub returns-clause-nack : goal.returns-clause-nack
returns-clause-nack c = λ config me views sender slot ballot promised plan is. ap sends_of is

pub returns-clause-accepted : goal.returns-clause-accepted
returns-clause-accepted c = λ config me views sender slot told plan is. ap sends_of is

pub returns-clause-decided : goal.returns-clause-decided
returns-clause-decided c = λ config me views sender slot value plan is. ap sends_of is
