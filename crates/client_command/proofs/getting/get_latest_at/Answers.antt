use Rattle.std.proofs.Common.{inl, inr, refl}
use Rattle.std.proofs.lemmas.Result.{err_from_is_err_and}
use Rattle.client_command.proofs.getting.get_latest_at.Goals as goal

pub returns : goal.returns
returns g c = inl (record {
  info = c.in_ok-info.info;
  between = g.C.Connect.log c.info_at.new.connect;
  informed = c.in_ok-info.ensures;
  ticket = c.in_ok-ticket.ticket;
  latest = c.in_ok-ticket.ensures;
  gets = c.get_rows_at.ensures;
})

pub returns-in_err-ticket : goal.returns-in_err-ticket
returns-in_err-ticket g c =
    let p = err_from_is_err_and c.from_residual-in_err-ticket.result c.from_residual-in_err-ticket.ensures.1 in
    rw (p.1, p.2)
    (inr (inl (record {
      info = c.in_ok-info.info;
      informed = c.in_ok-info.ensures;
      fault = c.in_err-ticket.field-0.0;
      none = c.in_err-ticket.ensures;
      is = refl;
      silent = refl;
    })))
