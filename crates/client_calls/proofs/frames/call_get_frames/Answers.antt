use Rattle.std.proofs.Common.{ℕ, Vec}
use Rattle.std.specs.declared.alloc.Global.{Global}
use Rattle.client_calls.specs.Requests.{get_request}
use Rattle.client_calls.specs.Results.{GivesFrames, HasFrames}
use Rattle.client_calls.proofs.Called.{requested, not_requested, nothing_read}
use Rattle.client_calls.proofs.frames.call_get_frames.Goals as goal

pub returns-clause-sent : goal.returns-clause-sent
returns-clause-sent g c =
    requested (Vec ℕ Global) (get_request c.args.ticket.now) c.read_frames.result (g.W.Write.contents c.args.w.now) (g.W.Write.contents c.send_get_request.new.w) c.in_default.ensures

pub returns-in-Err-clause-sent : goal.returns-in-Err-clause-sent
returns-in-Err-clause-sent g c =
    not_requested (Vec ℕ Global) (get_request c.args.ticket.now) c.in-Err.fault (g.W.Write.contents c.args.w.now) (g.W.Write.contents c.send_get_request.new.w) c.in-Err.ensures

pub returns-in-Err-clause-told : goal.returns-in-Err-clause-told
returns-in-Err-clause-told g c = nothing_read GivesFrames HasFrames c.in-Err.fault (g.R.Read.remaining c.args.r.now)
