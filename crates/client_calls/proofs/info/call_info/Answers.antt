use Rattle.proto_wire.specs.declared.flight.info.FlightInfo.{FlightInfo}
use Rattle.client_calls.specs.Requests.{info_request}
use Rattle.client_calls.specs.Results.{GivesInfo, HasInfo}
use Rattle.client_calls.proofs.Called.{requested, not_requested, nothing_read}
use Rattle.client_calls.proofs.info.call_info.Goals as goal

pub returns-clause-sent : goal.returns-clause-sent
returns-clause-sent g c =
    requested FlightInfo (info_request c.args.table.now) c.read_info.result (g.W.Write.contents c.args.w.now) (g.W.Write.contents c.send_info_request.new.w) c.in_default.ensures

pub returns-in-Err-clause-sent : goal.returns-in-Err-clause-sent
returns-in-Err-clause-sent g c =
    not_requested FlightInfo (info_request c.args.table.now) c.in-Err.fault (g.W.Write.contents c.args.w.now) (g.W.Write.contents c.send_info_request.new.w) c.in-Err.ensures

pub returns-in-Err-clause-told : goal.returns-in-Err-clause-told
returns-in-Err-clause-told g c = nothing_read GivesInfo HasInfo c.in-Err.fault (g.R.Read.remaining c.args.r.now)
