use Rattle.learner.proofs.Voting.{first_counted_is}
use Rattle.learner.proofs.laws.first_counted_comes_first.Goals as goal

pub returns : goal.returns
returns c = first_counted_is
