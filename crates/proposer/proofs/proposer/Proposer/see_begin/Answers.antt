use Rattle.std.proofs.Common.{arith}
use Rattle.std.proofs.lemmas.Grind.{common_steps}
use Rattle.proposer.proofs.proposer.Proposer.see_begin.Goals as goal

pub returns-clause-spent : goal.returns-clause-spent
returns-clause-spent c = grind (arith, common_steps) steps 600000

pub returns-clause-ballot : goal.returns-clause-ballot
returns-clause-ballot c = grind (arith, common_steps) steps 600000
