use Rattle.client_command.proofs.Got.{came}
use Rattle.client_command.proofs.getting.get_rows_at.Goals as goal

pub returns : goal.returns
returns g c =
    came c.args.address c.args.ticket.now (g.C.Connect.log c.args.connect.now) (g.C.Connect.log c.get_at.new.connect) (g.O.Write.contents c.args.out.now) (g.O.Write.contents c.tell_rows.new.out)
    c.in_ok-download.download c.tell_rows.result c.tell_rows.ensures.fault c.in_ok-download.ensures c.tell_rows.ensures.written
