use Rattle.proposer.proofs.Opening.{one_open}
use Rattle.proposer.proofs.Once.{one_answer, goings_are_one}
use Rattle.proposer.proofs.laws.answers_are_one.Goals as goal

pub returns-clause-attempts : goal.returns-clause-attempts
returns-clause-attempts c = λ calls begun another since after one other. one_open calls begun another since after one other

pub returns-clause-answers : goal.returns-clause-answers
returns-clause-answers c = one_answer

pub returns-clause-further : goal.returns-clause-further
returns-clause-further c = goings_are_one
