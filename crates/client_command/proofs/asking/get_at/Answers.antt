use Rattle.downloads.specs.declared.download.Download.{Download}
use Rattle.downloads.specs.Taken.{GivesDownload, HasDownload}
use Rattle.client_calls.specs.Requests.{get_request}
use Rattle.client_command.proofs.Called.{called, called_in_vain}
use Rattle.client_command.proofs.asking.get_at.Goals as goal

pub returns-in-Ok-told : goal.returns-in-Ok-told
returns-in-Ok-told g c =
    called {T = Download} c.args.address (get_request c.args.ticket.now) GivesDownload HasDownload (g.C.Connect.log c.args.connect.now) (g.C.Connect.log c.open.new.self) (g.C.Connect.log c.close.new.self)
    (g.C.Input.Read.remaining c.in-Ok.ends.0) (g.C.Input.Read.remaining c.call_get-told.new.r) (g.C.Output.Write.contents c.in-Ok.ends.1) (g.C.Output.Write.contents c.call_get-told.new.w)
    c.in-Ok.ensures.opened c.close.ensures c.in-Ok-told.download c.in-Ok-told.ensures.sent c.in-Ok-told.ensures.told

pub returns-in-Err-told : goal.returns-in-Err-told
returns-in-Err-told g c =
    called_in_vain {T = Download} c.args.address (get_request c.args.ticket.now) GivesDownload HasDownload (g.C.Connect.log c.args.connect.now) (g.C.Connect.log c.open.new.self) (g.C.Connect.log c.close.new.self)
    (g.C.Input.Read.remaining c.in-Ok.ends.0) (g.C.Input.Read.remaining c.call_get-told.new.r) (g.C.Output.Write.contents c.in-Ok.ends.1) (g.C.Output.Write.contents c.call_get-told.new.w)
    c.in-Ok.ensures.opened c.close.ensures c.in-Err-told.fault c.in-Err-told.ensures.sent c.in-Err-told.ensures.told
