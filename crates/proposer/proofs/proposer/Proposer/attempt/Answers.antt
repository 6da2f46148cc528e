use Rattle.std.proofs.Common.{arith}
use Rattle.std.proofs.lemmas.Grind.{common_steps}
use Rattle.proposer.proofs.proposer.Proposer.attempt.Goals as goal

pub returns-in-Some-clause-value : goal.returns-in-Some-clause-value
returns-in-Some-clause-value c = grind (arith, common_steps) steps 600000

pub returns-in-Some-clause-open : goal.returns-in-Some-clause-open
returns-in-Some-clause-open c = grind (arith, common_steps) steps 600000

pub returns-in-None-clause-value : goal.returns-in-None-clause-value
returns-in-None-clause-value c = grind (arith, common_steps) steps 600000

pub returns-in-None-clause-open : goal.returns-in-None-clause-open
returns-in-None-clause-open c = grind (arith, common_steps) steps 600000
