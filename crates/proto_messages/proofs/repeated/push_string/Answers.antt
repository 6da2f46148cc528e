use Rattle.std.proofs.Common.{rules, arith}
use Rattle.std.proofs.lemmas.Grind.{common_steps}
use Rattle.proto_messages.proofs.repeated.push_string.Goals as goal

pub returns-in_err-string-clause-taken : goal.returns-in_err-string-clause-taken
returns-in_err-string-clause-taken c = search rules steps 300000

pub returns-in_err-string-clause-fault : goal.returns-in_err-string-clause-fault
returns-in_err-string-clause-fault c = search rules steps 300000

pub returns-clause-taken : goal.returns-clause-taken
returns-clause-taken c = grind (arith, common_steps) steps 600000

pub returns-clause-fault : goal.returns-clause-fault
returns-clause-fault c = search rules steps 300000
