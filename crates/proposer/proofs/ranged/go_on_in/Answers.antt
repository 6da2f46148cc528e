use Rattle.proposer.proofs.ranged.go_on_in.Goals as goal

pub returns-in-None-clause-answers : goal.returns-in-None-clause-answers
returns-in-None-clause-answers c = λ members calls holds. λ slot may. (rw c.in-None.is at holds) may.begun may.since may.open_is
