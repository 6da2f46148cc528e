use Rattle.std.proofs.Common.{rules, arith}
use Rattle.std.proofs.lemmas.Grind.{common_steps}
use Rattle.lawful_histories.proofs.trace.all_may_be_sent.Goals as goal

pub returns-then-not-may_be_sent : goal.returns-then-not-may_be_sent
returns-then-not-may_be_sent c = search rules steps 300000

pub loop-place-preserved : goal.loop-place-preserved
loop-place-preserved c = grind (arith, common_steps) steps 3000000

pub returns : goal.returns
returns c = search rules steps 300000
