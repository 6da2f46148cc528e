use Rattle.script_command.proofs.calling.play_call.Goals as goal

pub returns : goal.returns
returns g c = (c.in_ok-told.told, c.in_ok-write_line.ensures)
