use Rattle.std.proofs.Common.{rules}
use Rattle.replay_command.proofs.Schedules.{means_nothing}
use Rattle.replay_command.proofs.replaying.replay_file.Goals as goal

pub returns-in-Err-BadSchedule : goal.returns-in-Err-BadSchedule
returns-in-Err-BadSchedule g c = (
  means_nothing c.args.file.now c.in-Err-BadSchedule.field-0 c.in-Err-BadSchedule.field-0-is c.in-Err-BadSchedule.ensures.only,
  search rules,
)
