use Rattle.std.proofs.Common.{inl}
use Rattle.client_command.proofs.everywhere.get_everywhere_at.Goals as goal

pub returns : goal.returns
returns g c = inl (c.in_ok-frames.frames, c.in_ok-frames.ensures, c.print_frames.ensures)
