use Rattle.std.proofs.Common.{arith}
use Rattle.std.proofs.lemmas.Grind.{common_steps}
use Rattle.proposer.proofs.choice.is_better.Goals as goal

pub returns-in-Some : goal.returns-in-Some
returns-in-Some c = grind (arith, common_steps) steps 600000

pub returns-in-None : goal.returns-in-None
returns-in-None c = grind (arith, common_steps) steps 600000
