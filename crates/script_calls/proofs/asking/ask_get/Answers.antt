use Rattle.std.proofs.Common.{ℕ, Vec, Ok}
use Rattle.std.specs.declared.alloc.Global.{Global}
use Rattle.std.proofs.lemmas.Result.{err_from_is_err_and}
use Rattle.client_calls.specs.Results.{GivesFrames, HasFrames}
use Rattle.client_calls.specs.Requests.{get_request}
use Rattle.script_calls.specs.declared.told.Told.{Told}
use Rattle.script_calls.specs.declared.told.Told.TheVariants as told
use Rattle.script_calls.specs.Asking.{gets, Tells, CanTell}
use Rattle.script_calls.proofs.Heard.{requested, request_stays, fault_stays, value_says}
use Rattle.script_calls.proofs.asking.ask_get.Goals as goal

pub returns-clause-sent : goal.returns-clause-sent
returns-clause-sent g c =
    requested (get_request c.args.ticket.now) c.in_ok-frames.frames (Ok (told.Get c.in_ok-frames.frames)) (g.W.Write.contents c.args.w.now) (g.W.Write.contents c.call_get_frames.new.w) c.in_ok-frames.ensures.sent

pub returns-clause-told : goal.returns-clause-told
returns-clause-told g c =
    value_says GivesFrames HasFrames (Tells (gets c.args.ticket.now)) (CanTell (gets c.args.ticket.now)) (g.R.Read.remaining c.args.r.now) (g.R.Read.remaining c.call_get_frames.new.r) c.in_ok-frames.frames
    (told.Get c.in_ok-frames.frames) c.in_ok-frames.ensures.told (λ messages gives. gives)

pub returns-in_err-frames-clause-sent : goal.returns-in_err-frames-clause-sent
returns-in_err-frames-clause-sent g c =
    let p = err_from_is_err_and c.from_residual.result c.from_residual.ensures.1 in
    rw (p.1, p.2)
    (request_stays (Vec ℕ Global) Told (get_request c.args.ticket.now) c.in_err-frames.field-0.0 (g.W.Write.contents c.args.w.now) (g.W.Write.contents c.call_get_frames.new.w) c.in_err-frames.ensures.sent)

pub returns-in_err-frames-clause-told : goal.returns-in_err-frames-clause-told
returns-in_err-frames-clause-told g c =
    let p = err_from_is_err_and c.from_residual.result c.from_residual.ensures.1 in
    rw (p.1, p.2)
    (fault_stays GivesFrames HasFrames (Tells (gets c.args.ticket.now)) (CanTell (gets c.args.ticket.now)) (g.R.Read.remaining c.args.r.now) (g.R.Read.remaining c.call_get_frames.new.r) c.in_err-frames.field-0.0
    c.in_err-frames.ensures.told (λ messages has. has))
