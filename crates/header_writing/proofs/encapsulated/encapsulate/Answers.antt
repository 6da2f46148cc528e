use Rattle.std.proofs.Common.{arith, rules}
use Rattle.std.proofs.lemmas.Grind.{common_steps}
use Rattle.header_writing.proofs.encapsulated.encapsulate.Goals as goal

pub returns-in_err-put_word-clause-written : goal.returns-in_err-put_word-clause-written
returns-in_err-put_word-clause-written c = grind (arith, common_steps) steps 600000

pub returns-in_err-put_word-clause-refused : goal.returns-in_err-put_word-clause-refused
returns-in_err-put_word-clause-refused c = search rules steps 300000

pub returns-clause-written : goal.returns-clause-written
returns-clause-written c = grind (arith, common_steps) steps 600000

pub returns-clause-refused : goal.returns-clause-refused
returns-clause-refused c = grind (arith, common_steps) steps 600000
