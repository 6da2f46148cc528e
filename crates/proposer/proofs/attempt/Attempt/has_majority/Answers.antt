use Rattle.std.proofs.Common.{arith}
use Rattle.std.proofs.lemmas.Grind.{common_steps}
use Rattle.proposer.proofs.attempt.Attempt.has_majority.Goals as goal

pub returns : goal.returns
returns c = grind (arith, common_steps) steps 600000
