use Rattle.std.proofs.Common.{List, map, string_bytes, subst, Vec}
use Rattle.std.specs.declared.alloc.Global.{Global}
use Rattle.std.proofs.lemmas.Result.{err_from_is_err_and}
use Rattle.proto_wire.specs.declared.flight.info.FlightInfo.{FlightInfo}
use Rattle.proto_wire.specs.FlightValues.{info_values}
use Rattle.client_calls.specs.Requests.{list_request}
use Rattle.client_calls.specs.Results.{GivesInfos, HasInfos}
use Rattle.client_command.specs.Tables.{NoText, TellsTables}
use Rattle.client_command.proofs.Told.{nothing_told, text_told}
use Rattle.client_command.proofs.listing.print_tables_at.Goals as goal

pub returns : goal.returns
returns g c =
    text_told {T = Vec FlightInfo Global} c.args.address list_request GivesInfos HasInfos (λ infos text. TellsTables (map info_values infos.items) text) c.in_ok-infos.infos (g.C.Connect.log c.args.connect.now)
    (g.C.Connect.log c.list_at.new.connect) (g.O.Write.contents c.args.out.now) c.in_ok-infos.ensures (string_bytes c.in_ok-text.text) c.as_bytes.result.now c.write_text.result
    (g.O.Write.contents c.write_text.new.out)
    (subst (λ (l : List FlightInfo). TellsTables (map info_values l) (string_bytes c.in_ok-text.text)) c.deref.ensures.value c.in_ok-text.ensures)
    c.as_bytes.ensures.value c.write_text.ensures.written

pub returns-in_err-text : goal.returns-in_err-text
returns-in_err-text g c =
    let p = err_from_is_err_and c.from_residual-in_err-text.result c.from_residual-in_err-text.ensures.1 in
    rw (p.1, p.2)
    (nothing_told {T = Vec FlightInfo Global} c.args.address list_request GivesInfos HasInfos (λ infos text. TellsTables (map info_values infos.items) text) c.in_ok-infos.infos (g.C.Connect.log c.args.connect.now)
    (g.C.Connect.log c.list_at.new.connect) (g.O.Write.contents c.args.out.now) c.in_ok-infos.ensures c.in_err-text.field-0.0
    (subst (λ (l : List FlightInfo). NoText TellsTables (map info_values l) c.in_err-text.field-0.0) c.deref.ensures.value c.in_err-text.ensures))
