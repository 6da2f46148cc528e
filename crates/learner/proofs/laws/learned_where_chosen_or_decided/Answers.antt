use Rattle.learner.proofs.OneValue.{learned_of_settled, settled_of_learned}
use Rattle.learner.proofs.laws.learned_where_chosen_or_decided.Goals as goal

pub returns-clause-learned : goal.returns-clause-learned
returns-clause-learned c = learned_of_settled

pub returns-clause-settled : goal.returns-clause-settled
returns-clause-settled c = settled_of_learned
