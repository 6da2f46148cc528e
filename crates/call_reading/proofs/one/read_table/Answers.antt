use Rattle.std.proofs.Common.{ℕ, List, String, string_bytes}
use Rattle.std.specs.declared.alloc.Global.{Global}
use Rattle.std.proofs.lemmas.Result.{err_from_is_err_and}
use Rattle.proto_wire.specs.Flight.{flight_descriptor_descriptor}
use Rattle.call_protocol.specs.Names.{TableFault}
use Rattle.call_reading.specs.Requests.{AsksForTable}
use Rattle.call_reading.specs.Faults.{MeansAtFault}
use Rattle.call_reading.proofs.Steps.{one_breaks}
use Rattle.call_reading.proofs.one.read_table.Goals as goal

pub returns-in_err-read_end : goal.returns-in_err-read_end
returns-in_err-read_end g c =
    let p = err_from_is_err_and c.from_residual-in_err-read_end.result c.from_residual-in_err-read_end.ensures.1 in
    rw (p.1, p.2)
    (one_breaks {T = String Global} (λ message table. AsksForTable message (string_bytes table)) (λ message. (table : List ℕ) × AsksForTable message table)
    (MeansAtFault flight_descriptor_descriptor TableFault) (g.R.Read.remaining c.args.r.now) (g.R.Read.remaining c.first_message.new.r) (g.R.Read.remaining c.read_end.new.r)
    c.in_ok-message.message c.in_err-read_end.field-0.0 c.in_ok-message.ensures
    (string_bytes c.in_ok-table.table, rw c.deref.ensures.value at c.in_ok-table.ensures.asks) c.in_err-read_end.ensures)
