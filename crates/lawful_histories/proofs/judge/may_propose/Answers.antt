use Rattle.std.proofs.Common.{rules, arith}
use Rattle.std.proofs.lemmas.Grind.{common_steps}
use Rattle.lawful_histories.proofs.judge.may_propose.Goals as goal

pub returns-then-most_promise : goal.returns-then-most_promise
returns-then-most_promise c = search rules steps 300000

pub returns-else-most_promise : goal.returns-else-most_promise
returns-else-most_promise c = grind (arith, common_steps) steps 600000
