use Rattle.run_files.proofs.Schedules.{one_schedule}
use Rattle.run_files.proofs.laws.schedules_are_one.Goals as goal

pub returns : goal.returns
returns c = one_schedule
