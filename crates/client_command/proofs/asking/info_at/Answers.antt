use Rattle.proto_wire.specs.declared.flight.info.FlightInfo.{FlightInfo}
use Rattle.client_calls.specs.Results.{GivesInfo, HasInfo}
use Rattle.client_calls.specs.Requests.{info_request}
use Rattle.client_command.proofs.Called.{called, called_in_vain}
use Rattle.client_command.proofs.asking.info_at.Goals as goal

pub returns-in-Ok-told : goal.returns-in-Ok-told
returns-in-Ok-told g c =
    called {T = FlightInfo} c.args.address (info_request c.args.table.now) GivesInfo HasInfo (g.C.Connect.log c.args.connect.now) (g.C.Connect.log c.open.new.self) (g.C.Connect.log c.close.new.self)
    (g.C.Input.Read.remaining c.in-Ok.ends.0) (g.C.Input.Read.remaining c.call_info-told.new.r) (g.C.Output.Write.contents c.in-Ok.ends.1) (g.C.Output.Write.contents c.call_info-told.new.w)
    c.in-Ok.ensures.opened c.close.ensures c.in-Ok-told.info c.in-Ok-told.ensures.sent c.in-Ok-told.ensures.told

pub returns-in-Err-told : goal.returns-in-Err-told
returns-in-Err-told g c =
    called_in_vain {T = FlightInfo} c.args.address (info_request c.args.table.now) GivesInfo HasInfo (g.C.Connect.log c.args.connect.now) (g.C.Connect.log c.open.new.self) (g.C.Connect.log c.close.new.self)
    (g.C.Input.Read.remaining c.in-Ok.ends.0) (g.C.Input.Read.remaining c.call_info-told.new.r) (g.C.Output.Write.contents c.in-Ok.ends.1) (g.C.Output.Write.contents c.call_info-told.new.w)
    c.in-Ok.ensures.opened c.close.ensures c.in-Err-told.fault c.in-Err-told.ensures.sent c.in-Err-told.ensures.told
