use Rattle.std.proofs.lemmas.Result.{err_from_is_err_and}
use Rattle.proto_wire.specs.Flight.{ticket_descriptor}
use Rattle.table_types.specs.Ticket.{TableVersion}
use Rattle.call_reading.specs.Requests.{AsksForVersion}
use Rattle.call_reading.specs.Faults.{MeansAtFault, TicketFault}
use Rattle.call_reading.proofs.Steps.{one_breaks}
use Rattle.call_reading.proofs.one.read_ticket.Goals as goal

pub returns-in_err-read_end : goal.returns-in_err-read_end
returns-in_err-read_end g c =
    let p = err_from_is_err_and c.from_residual-in_err-read_end.result c.from_residual-in_err-read_end.ensures.1 in
    rw (p.1, p.2)
    (one_breaks AsksForVersion (λ message. (asked : TableVersion) × AsksForVersion message asked) (MeansAtFault ticket_descriptor TicketFault)
    (g.R.Read.remaining c.args.r.now) (g.R.Read.remaining c.first_message.new.r) (g.R.Read.remaining c.read_end.new.r)
    c.in_ok-message.message c.in_err-read_end.field-0.0 c.in_ok-message.ensures
    (c.in_ok-ticket.ticket, rw c.deref.ensures.value at c.in_ok-ticket.ensures.asks) c.in_err-read_end.ensures)
