use Rattle.run_files.proofs.Scripts.{reads_one, reads_none}
use Rattle.run_files.proofs.script_file.read_script.Goals as goal

pub returns-in-Ok-Ok-clause-only : goal.returns-in-Ok-Ok-clause-only
returns-in-Ok-Ok-clause-only c = λ nodes calls h.
    reads_one c.args.file.now c.in-Ok-Ok.field-0 c.in-Ok-Ok.script nodes calls c.in-Ok-Ok.field-0-is c.in-Ok-Ok.ensures.read h

pub returns-in-Ok-Err-clause-only : goal.returns-in-Ok-Err-clause-only
returns-in-Ok-Err-clause-only c = λ nodes calls h.
    absurd (reads_none c.args.file.now c.in-Ok-Err.field-0 _ nodes calls c.in-Ok-Err.field-0-is c.in-Ok-Err.ensures.read h)
