use Rattle.std.proofs.Common.{arith, rules}
use Rattle.std.proofs.lemmas.Grind.{common_steps}
use Rattle.decided_log.proofs.copies.prefix_growth.Goals as goal

pub returns-in_err-clone : goal.returns-in_err-clone
returns-in_err-clone c = search rules steps 300000

pub returns-in_err-push : goal.returns-in_err-push
returns-in_err-push c = search rules steps 300000

pub returns-in_err-clone-2 : goal.returns-in_err-clone-2
returns-in_err-clone-2 c = grind (arith, common_steps) steps 600000

pub returns-in_err-push-2 : goal.returns-in_err-push-2
returns-in_err-push-2 c = grind (arith, common_steps) steps 600000

pub returns : goal.returns
returns c = search rules steps 300000
