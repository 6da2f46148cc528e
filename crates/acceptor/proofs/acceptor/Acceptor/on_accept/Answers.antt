use Rattle.std.proofs.Common.{arith, rules}
use Rattle.std.proofs.lemmas.Grind.{common_steps}
use Rattle.acceptor.proofs.acceptor.Acceptor.on_accept.Goals as goal

pub returns-then-is_below-clause-answered : goal.returns-then-is_below-clause-answered
returns-then-is_below-clause-answered c = grind (arith, common_steps) steps 600000

pub returns-then-is_below-clause-err : goal.returns-then-is_below-clause-err
returns-then-is_below-clause-err c = search rules steps 300000

pub returns-then-is_below-clause-memory : goal.returns-then-is_below-clause-memory
returns-then-is_below-clause-memory c = search rules steps 300000

pub returns-in_err-set-clause-answered : goal.returns-in_err-set-clause-answered
returns-in_err-set-clause-answered c = search rules steps 300000

pub returns-in_err-set-clause-err : goal.returns-in_err-set-clause-err
returns-in_err-set-clause-err c = search rules steps 300000

pub returns-in_err-set-clause-memory : goal.returns-in_err-set-clause-memory
returns-in_err-set-clause-memory c = search rules steps 300000

pub returns-clause-answered : goal.returns-clause-answered
returns-clause-answered c = search rules steps 300000

pub returns-clause-err : goal.returns-clause-err
returns-clause-err c = search rules steps 300000

pub returns-clause-memory : goal.returns-clause-memory
returns-clause-memory c = search rules steps 300000
