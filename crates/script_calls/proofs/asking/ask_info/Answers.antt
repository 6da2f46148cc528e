use Rattle.std.proofs.lemmas.Result.{err_from_is_err_and}
use Rattle.proto_wire.specs.declared.flight.info.FlightInfo.{FlightInfo}
use Rattle.client_calls.specs.Results.{GivesInfo, HasInfo}
use Rattle.client_calls.specs.Requests.{info_request}
use Rattle.script_calls.specs.declared.told.Told.{Told}
use Rattle.script_calls.specs.Asking.{informs, Tells, CanTell}
use Rattle.script_calls.proofs.Heard.{requested, request_stays, fault_stays, info_heard, tells_of_info}
use Rattle.script_calls.proofs.asking.ask_info.Goals as goal

pub returns-clause-sent : goal.returns-clause-sent
returns-clause-sent g c =
    requested (info_request c.args.table.now) c.in_ok-info.info c.info_told.result (g.W.Write.contents c.args.w.now) (g.W.Write.contents c.call_info.new.w) c.in_ok-info.ensures.sent

pub returns-clause-told : goal.returns-clause-told
returns-clause-told g c =
    info_heard c.answers_are_one.ensures.answer c.answers_are_one.ensures.apart c.messages_are_one.ensures c.args.table.now c.in_ok-info.info c.info_told.result (g.R.Read.remaining c.args.r.now)
    (g.R.Read.remaining c.call_info.new.r) c.info_told.ensures c.in_ok-info.ensures.told

pub returns-in_err-info-clause-sent : goal.returns-in_err-info-clause-sent
returns-in_err-info-clause-sent g c =
    let p = err_from_is_err_and c.from_residual.result c.from_residual.ensures.1 in
    rw (p.1, p.2)
    (request_stays FlightInfo Told (info_request c.args.table.now) c.in_err-info.field-0.0 (g.W.Write.contents c.args.w.now) (g.W.Write.contents c.call_info.new.w) c.in_err-info.ensures.sent)

pub returns-in_err-info-clause-told : goal.returns-in_err-info-clause-told
returns-in_err-info-clause-told g c =
    let p = err_from_is_err_and c.from_residual.result c.from_residual.ensures.1 in
    rw (p.1, p.2)
    (fault_stays GivesInfo HasInfo (Tells (informs c.args.table.now)) (CanTell (informs c.args.table.now)) (g.R.Read.remaining c.args.r.now) (g.R.Read.remaining c.call_info.new.r) c.in_err-info.field-0.0
    c.in_err-info.ensures.told (tells_of_info c.args.table.now))
