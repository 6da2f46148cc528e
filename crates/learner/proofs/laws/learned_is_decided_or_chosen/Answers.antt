use Rattle.learner.proofs.Voting.{learned_of_decided, learned_of_chosen, only_decided_or_chosen}
use Rattle.learner.proofs.laws.learned_is_decided_or_chosen.Goals as goal

pub returns-clause-decided : goal.returns-clause-decided
returns-clause-decided c = learned_of_decided

pub returns-clause-chosen : goal.returns-clause-chosen
returns-clause-chosen c = learned_of_chosen

pub returns-clause-only : goal.returns-clause-only
returns-clause-only c = only_decided_or_chosen
