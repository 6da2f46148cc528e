use Rattle.std.proofs.Common.{ℕ, Vec}
use Rattle.std.specs.declared.alloc.Global.{Global}
use Rattle.client_calls.specs.Results.{GivesFrames, HasFrames}
use Rattle.client_calls.specs.Requests.{get_request}
use Rattle.client_command.proofs.Called.{called, called_in_vain}
use Rattle.client_command.proofs.asking.frames_at.Goals as goal

pub returns-in-Ok-told : goal.returns-in-Ok-told
returns-in-Ok-told g c =
    called {T = Vec ℕ Global} c.args.address (get_request c.args.ticket.now) GivesFrames HasFrames (g.C.Connect.log c.args.connect.now) (g.C.Connect.log c.open.new.self) (g.C.Connect.log c.close.new.self)
    (g.C.Input.Read.remaining c.in-Ok.ends.0) (g.C.Input.Read.remaining c.call_get_frames-told.new.r) (g.C.Output.Write.contents c.in-Ok.ends.1) (g.C.Output.Write.contents c.call_get_frames-told.new.w)
    c.in-Ok.ensures.opened c.close.ensures c.in-Ok-told.frames c.in-Ok-told.ensures.sent c.in-Ok-told.ensures.told

pub returns-in-Err-told : goal.returns-in-Err-told
returns-in-Err-told g c =
    called_in_vain {T = Vec ℕ Global} c.args.address (get_request c.args.ticket.now) GivesFrames HasFrames (g.C.Connect.log c.args.connect.now) (g.C.Connect.log c.open.new.self) (g.C.Connect.log c.close.new.self)
    (g.C.Input.Read.remaining c.in-Ok.ends.0) (g.C.Input.Read.remaining c.call_get_frames-told.new.r) (g.C.Output.Write.contents c.in-Ok.ends.1) (g.C.Output.Write.contents c.call_get_frames-told.new.w)
    c.in-Ok.ensures.opened c.close.ensures c.in-Err-told.fault c.in-Err-told.ensures.sent c.in-Err-told.ensures.told
