use Rattle.script_command.proofs.Scripts.{means_nothing}
use Rattle.script_command.proofs.playing.script_file.Goals as goal

pub returns-in-Err-BadScript-clause-bad : goal.returns-in-Err-BadScript-clause-bad
returns-in-Err-BadScript-clause-bad g c told =
    means_nothing c.args.file.now c.in-Err-BadScript.field-0 c.in-Err-BadScript.field-0-is c.in-Err-BadScript.ensures.only
