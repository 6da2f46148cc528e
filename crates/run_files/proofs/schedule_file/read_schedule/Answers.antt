use Rattle.run_files.proofs.Schedules.{reads_one, reads_none}
use Rattle.run_files.proofs.schedule_file.read_schedule.Goals as goal

pub returns-in-Ok-Ok-clause-only : goal.returns-in-Ok-Ok-clause-only
returns-in-Ok-Ok-clause-only c = λ config events h.
    reads_one c.args.file.now c.in-Ok-Ok.field-0 c.in-Ok-Ok.schedule config events c.in-Ok-Ok.field-0-is c.in-Ok-Ok.ensures.read h

pub returns-in-Ok-Err-clause-only : goal.returns-in-Ok-Err-clause-only
returns-in-Ok-Err-clause-only c = λ config events h.
    absurd (reads_none c.args.file.now c.in-Ok-Err.field-0 _ config events c.in-Ok-Err.field-0-is c.in-Ok-Err.ensures.read h)
