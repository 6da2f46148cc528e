use Rattle.json_client.proofs.Got.{rows_asked, rows_got}
use Rattle.json_client.proofs.getting.get_rows.Goals as goal

pub returns-in-Ok-clause-sent : goal.returns-in-Ok-clause-sent
returns-in-Ok-clause-sent g c =
    rows_asked c.in-Ok.download c.args.ticket.now c.write_rows.result (g.W.Write.contents c.args.w.now) (g.W.Write.contents c.call_get.new.w) c.write_rows.ensures.kind c.in-Ok.ensures.sent

pub returns-in-Ok-clause-told : goal.returns-in-Ok-clause-told
returns-in-Ok-clause-told g c =
    rows_got c.in-Ok.download (g.R.Read.remaining c.args.r.now) (g.R.Read.remaining c.call_get.new.r) (g.O.Write.contents c.args.out.now) (g.O.Write.contents c.write_rows.new.out)
    c.write_rows.result c.write_rows.ensures.kind c.in-Ok.ensures.told c.write_rows.ensures.written c.write_rows.ensures.cell
