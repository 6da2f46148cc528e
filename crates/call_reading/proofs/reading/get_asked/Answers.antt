use Rattle.std.proofs.lemmas.Result.{err_from_is_err_and}
use Rattle.call_reading.proofs.Calls.{get_known, get_fails}
use Rattle.call_reading.proofs.reading.get_asked.Goals as goal

pub returns : goal.returns
returns g c = get_known c.in_ok-ticket.ticket (g.R.Read.remaining c.args.r.now) (g.R.Read.remaining c.read_ticket.new.r) c.in_ok-ticket.ensures

pub returns-in_err-ticket : goal.returns-in_err-ticket
returns-in_err-ticket g c =
    let p = err_from_is_err_and c.from_residual.result c.from_residual.ensures.1 in
    rw (p.1, p.2)
    (get_fails c.in_err-ticket.field-0.0 (g.R.Read.remaining c.args.r.now) (g.R.Read.remaining c.read_ticket.new.r) c.in_err-ticket.ensures)
