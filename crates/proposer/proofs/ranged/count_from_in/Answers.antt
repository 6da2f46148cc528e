use Rattle.std.proofs.Common.{refl}
use Rattle.proposer.proofs.Answering.{closed_on, closed_answers}
use Rattle.proposer.proofs.ranged.count_from_in.Goals as goal

pub returns-in-None-clause-answers : goal.returns-in-None-clause-answers
returns-in-None-clause-answers c = λ calls holds. closed_answers c.args.members calls _ (rw c.in-None.is at holds)

pub returns-in-None-clause-stands : goal.returns-in-None-clause-stands
returns-in-None-clause-stands c = λ calls holds. rw c.in-None.is (closed_on c.args.members calls _ refl (rw c.in-None.is at holds))
