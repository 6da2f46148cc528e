use Rattle.std.proofs.Common.{inl, inr, map, refl}
use Rattle.std.proofs.lemmas.Result.{err_from_is_err_and}
use Rattle.proto_wire.specs.FlightValues.{location_values}
use Rattle.client_command.proofs.everywhere.frames_everywhere_at.Goals as goal

pub returns : goal.returns
returns g c = inl (record {
  info = c.in_ok-info.info;
  between = g.C.Connect.log c.info_at.new.connect;
  informed = c.in_ok-info.ensures;
  ticket = c.in_ok-ticket.ticket;
  ticketed = c.in_ok-ticket.ensures;
  locations = map location_values c.locations_in.result.now;
  located = c.locations_in.ensures;
  redeemed = c.redeem_at.ensures;
})

pub returns-in_err-ticket : goal.returns-in_err-ticket
returns-in_err-ticket g c =
    let p = err_from_is_err_and c.from_residual-in_err-ticket.result c.from_residual-in_err-ticket.ensures.1 in
    rw (p.1, p.2)
    (inr (inl (record {
      info = c.in_ok-info.info;
      informed = c.in_ok-info.ensures;
      fault = c.in_err-ticket.field-0.0;
      none = c.in_err-ticket.ensures;
      is = refl;
      silent = refl;
    })))
