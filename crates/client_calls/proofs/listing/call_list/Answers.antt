use Rattle.std.proofs.Common.{Vec}
use Rattle.std.specs.declared.alloc.Global.{Global}
use Rattle.proto_wire.specs.declared.flight.info.FlightInfo.{FlightInfo}
use Rattle.client_calls.specs.Requests.{list_request}
use Rattle.client_calls.specs.Results.{GivesInfos, HasInfos}
use Rattle.client_calls.proofs.Called.{requested, not_requested, nothing_read}
use Rattle.client_calls.proofs.listing.call_list.Goals as goal

pub returns-clause-sent : goal.returns-clause-sent
returns-clause-sent g c =
    requested (Vec FlightInfo Global) list_request c.read_infos.result (g.W.Write.contents c.args.w.now) (g.W.Write.contents c.send_list_request.new.w) c.in_default.ensures

pub returns-in-Err-clause-sent : goal.returns-in-Err-clause-sent
returns-in-Err-clause-sent g c =
    not_requested (Vec FlightInfo Global) list_request c.in-Err.fault (g.W.Write.contents c.args.w.now) (g.W.Write.contents c.send_list_request.new.w) c.in-Err.ensures

pub returns-in-Err-clause-told : goal.returns-in-Err-clause-told
returns-in-Err-clause-told g c = nothing_read GivesInfos HasInfos c.in-Err.fault (g.R.Read.remaining c.args.r.now)
