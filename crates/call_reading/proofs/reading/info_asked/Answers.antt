use Rattle.std.proofs.Common.{refl}
use Rattle.std.proofs.lemmas.Result.{err_from_is_err_and}
use Rattle.call_protocol.specs.declared.method.Method.TheVariants as methods
use Rattle.call_reading.specs.declared.request.FlightRequest.TheVariants as asks
use Rattle.call_reading.proofs.Calls.{table_known, table_fails, info_one}
use Rattle.call_reading.proofs.reading.info_asked.Goals as goal

pub returns : goal.returns
returns g c =
    table_known methods.GetFlightInfo (asks.GetFlightInfo c.in_ok-table.table) c.in_ok-table.table (g.R.Read.remaining c.args.r.now) (g.R.Read.remaining c.read_table.new.r) refl
    (λ message h. (message, refl, h)) c.in_ok-table.ensures

pub returns-in_err-table : goal.returns-in_err-table
returns-in_err-table g c =
    let p = err_from_is_err_and c.from_residual.result c.from_residual.ensures.1 in
    rw (p.1, p.2)
    (table_fails methods.GetFlightInfo c.in_err-table.field-0.0 (g.R.Read.remaining c.args.r.now) (g.R.Read.remaining c.read_table.new.r) info_one c.in_err-table.ensures)
