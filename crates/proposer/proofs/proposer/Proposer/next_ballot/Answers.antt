use Rattle.std.proofs.Common.{arith}
use Rattle.std.proofs.lemmas.Grind.{common_steps}
use Rattle.proposer.proofs.proposer.Proposer.next_ballot.Goals as goal

pub returns-in-Some-clause-spent : goal.returns-in-Some-clause-spent
returns-in-Some-clause-spent c = grind (arith, common_steps) steps 600000

pub returns-in-Some-clause-ballot : goal.returns-in-Some-clause-ballot
returns-in-Some-clause-ballot c = grind (arith, common_steps) steps 600000

pub returns-in-None-clause-spent : goal.returns-in-None-clause-spent
returns-in-None-clause-spent c = grind (arith, common_steps) steps 600000

pub returns-in-None-clause-ballot : goal.returns-in-None-clause-ballot
returns-in-None-clause-ballot c = grind (arith, common_steps) steps 600000
