use Rattle.histories.proofs.Within.{reached_sound}
use Rattle.histories.proofs.laws.views_are_of_the_configuration.Goals as goal

pub returns-clause-slots : goal.returns-clause-slots
returns-clause-slots c = λ config sent steps recovered seats node views call reaches up has.
    (reached_sound c.messages_are_told_to_their_part.ensures config sent steps recovered seats reaches node views up).slots call has

pub returns-clause-waiting : goal.returns-clause-waiting
returns-clause-waiting c = λ config sent steps recovered seats node views text reaches up has.
    (reached_sound c.messages_are_told_to_their_part.ensures config sent steps recovered seats reaches node views up).uploads text has
