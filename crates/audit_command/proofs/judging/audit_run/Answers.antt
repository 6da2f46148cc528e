use Rattle.std.proofs.Common.{rules, arith}
use Rattle.std.proofs.lemmas.Grind.{common_steps}
use Rattle.audit_command.proofs.judging.audit_run.Goals as goal

pub returns-in-Ok-true-clause-status : goal.returns-in-Ok-true-clause-status
returns-in-Ok-true-clause-status g c = search rules steps 300000

pub returns-in-Ok-true-clause-lawful : goal.returns-in-Ok-true-clause-lawful
returns-in-Ok-true-clause-lawful g c = search rules steps 300000

pub returns-in-Ok-true-clause-told : goal.returns-in-Ok-true-clause-told
returns-in-Ok-true-clause-told g c = search rules steps 300000

pub returns-in-Ok-true-clause-silent : goal.returns-in-Ok-true-clause-silent
returns-in-Ok-true-clause-silent g c = search rules steps 300000

pub returns-in-Ok-true-clause-failed : goal.returns-in-Ok-true-clause-failed
returns-in-Ok-true-clause-failed g c = λ e. absurd (omega (arith, e))

pub returns-in-Ok-false-clause-status : goal.returns-in-Ok-false-clause-status
returns-in-Ok-false-clause-status g c = search rules steps 300000

pub returns-in-Ok-false-clause-lawful : goal.returns-in-Ok-false-clause-lawful
returns-in-Ok-false-clause-lawful g c = search rules steps 300000

pub returns-in-Ok-false-clause-told : goal.returns-in-Ok-false-clause-told
returns-in-Ok-false-clause-told g c = search rules steps 300000

pub returns-in-Ok-false-clause-silent : goal.returns-in-Ok-false-clause-silent
returns-in-Ok-false-clause-silent g c = search rules steps 300000

pub returns-in-Ok-false-clause-failed : goal.returns-in-Ok-false-clause-failed
returns-in-Ok-false-clause-failed g c = search rules steps 2000000

pub returns-in-Err-clause-status : goal.returns-in-Err-clause-status
returns-in-Err-clause-status g c = search rules steps 300000

pub returns-in-Err-clause-lawful : goal.returns-in-Err-clause-lawful
returns-in-Err-clause-lawful g c = search rules steps 300000

pub returns-in-Err-clause-told : goal.returns-in-Err-clause-told
returns-in-Err-clause-told g c = search rules steps 300000

pub returns-in-Err-clause-silent : goal.returns-in-Err-clause-silent
returns-in-Err-clause-silent g c = search rules steps 300000

pub returns-in-Err-clause-failed : goal.returns-in-Err-clause-failed
returns-in-Err-clause-failed g c = grind (arith, common_steps) steps 600000
