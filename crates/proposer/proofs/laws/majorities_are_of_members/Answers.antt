use Rattle.proposer.proofs.Members.{answers_are_told, answers_are_said, majority_is_promised}
use Rattle.proposer.proofs.laws.majorities_are_of_members.Goals as goal

pub returns-clause-answering : goal.returns-clause-answering
returns-clause-answering c = answers_are_told

pub returns-clause-answering_from : goal.returns-clause-answering_from
returns-clause-answering_from c = answers_are_said

pub returns-clause-majority : goal.returns-clause-majority
returns-clause-majority c = majority_is_promised
