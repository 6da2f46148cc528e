use Rattle.learner.proofs.OneValue.{one_value}
use Rattle.learner.proofs.Voting.{learns_one}
use Rattle.learner.proofs.laws.learned_is_one.Goals as goal

pub returns-clause-learned : goal.returns-clause-learned
returns-clause-learned c = one_value

pub returns-clause-learns : goal.returns-clause-learns
returns-clause-learns c = learns_one
