use Rattle.std.proofs.Common.{inl}
use Rattle.client_command.proofs.everywhere.print_frames.Goals as goal

pub returns : goal.returns
returns g c = inl (c.in_ok-download.download, c.in_ok-download.ensures, c.tell_rows.ensures.fault, c.tell_rows.ensures.written)
