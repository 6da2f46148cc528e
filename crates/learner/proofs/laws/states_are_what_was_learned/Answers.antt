use Rattle.learner.proofs.Adding.{learns_still}
use Rattle.learner.proofs.Learning.{same_learnt}
use Rattle.learner.proofs.Voting.{decided_is_learned, votes_alike, firsts_alike}
use Rattle.learner.proofs.laws.states_are_what_was_learned.Goals as goal

pub returns-clause-decided : goal.returns-clause-decided
returns-clause-decided c = decided_is_learned

pub returns-clause-votes : goal.returns-clause-votes
returns-clause-votes c = votes_alike

pub returns-clause-firsts : goal.returns-clause-firsts
returns-clause-firsts c = firsts_alike

pub returns-clause-looks : goal.returns-clause-looks
returns-clause-looks c = same_learnt

pub returns-clause-still : goal.returns-clause-still
returns-clause-still c = learns_still
