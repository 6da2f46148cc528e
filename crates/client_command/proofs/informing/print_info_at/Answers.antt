use Rattle.std.proofs.Common.{string_bytes}
use Rattle.std.proofs.lemmas.Result.{err_from_is_err_and}
use Rattle.proto_wire.specs.declared.flight.info.FlightInfo.{FlightInfo}
use Rattle.proto_wire.specs.FlightValues.{info_values}
use Rattle.client_calls.specs.Requests.{info_request}
use Rattle.client_calls.specs.Results.{GivesInfo, HasInfo}
use Rattle.client_command.specs.Tables.{TellsInfo}
use Rattle.client_command.proofs.Told.{nothing_told, text_told}
use Rattle.client_command.proofs.informing.print_info_at.Goals as goal

pub returns : goal.returns
returns g c =
    text_told {T = FlightInfo} c.args.address (info_request c.args.table.now) GivesInfo HasInfo (λ info text. TellsInfo c.args.table.now (info_values info) text) c.in_ok-info.info
    (g.C.Connect.log c.args.connect.now) (g.C.Connect.log c.info_at.new.connect) (g.O.Write.contents c.args.out.now) c.in_ok-info.ensures (string_bytes c.in_ok-text.text)
    c.as_bytes.result.now c.write_text.result (g.O.Write.contents c.write_text.new.out) c.in_ok-text.ensures c.as_bytes.ensures.value c.write_text.ensures.written

pub returns-in_err-text : goal.returns-in_err-text
returns-in_err-text g c =
    let p = err_from_is_err_and c.from_residual-in_err-text.result c.from_residual-in_err-text.ensures.1 in
    rw (p.1, p.2)
    (nothing_told {T = FlightInfo} c.args.address (info_request c.args.table.now) GivesInfo HasInfo (λ info text. TellsInfo c.args.table.now (info_values info) text) c.in_ok-info.info
    (g.C.Connect.log c.args.connect.now) (g.C.Connect.log c.info_at.new.connect) (g.O.Write.contents c.args.out.now) c.in_ok-info.ensures c.in_err-text.field-0.0 c.in_err-text.ensures)
