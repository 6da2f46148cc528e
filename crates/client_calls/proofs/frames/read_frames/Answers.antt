use Rattle.std.proofs.Common.{◌≡◌, [], arith, rules}
use Rattle.std.proofs.lemmas.Result.{err_from_is_err_and}
use Rattle.client_calls.specs.Results.{GivesFrames, HasFrames}
use Rattle.client_calls.proofs.Came.{HoldsFrames, none_came, more_came, value_came, fault_came, too_many_came, one_frame_more}
use Rattle.client_calls.proofs.frames.read_frames.Goals as goal

pub loop-count-init : goal.loop-count-init
loop-count-init g c =
    let none : c.new-frames.result.items ≡ [] = search rules in
    none_came (HoldsFrames c.new-frames.result) (g.R.Read.remaining c.args.r.now) none

pub loop-count-preserved : goal.loop-count-preserved
loop-count-preserved g c =
    more_came (HoldsFrames c.loop-count.frames) (HoldsFrames c.push_frame.new.frames) c.loop-count._count (g.R.Read.remaining c.args.r.now) (g.R.Read.remaining c.loop-count.r)
    (g.R.Read.remaining c.next_part.new.r) c.in-Message.message c.loop-count.invariant (rw c.in-Message.is at c.in_ok-message.ensures)
    (one_frame_more c.loop-count.frames c.push_frame.new.frames c.in-Message.message.items (rw c.deref.ensures.value at c.in_ok-push_frame-in-Message.ensures.frame))

pub returns-in-End : goal.returns-in-End
returns-in-End g c =
    value_came c.no_frame_begins_another.ensures GivesFrames HasFrames (HoldsFrames c.loop-count.frames) c.loop-count._count (g.R.Read.remaining c.args.r.now) (g.R.Read.remaining c.loop-count.r)
    (g.R.Read.remaining c.next_part.new.r) c.loop-count.frames c.loop-count-test.true c.loop-count.invariant (rw c.in-End.is at c.in_ok-message.ensures) (λ messages is. is)

pub returns-in_err-message : goal.returns-in_err-message
returns-in_err-message g c =
    let p = err_from_is_err_and c.from_residual.result c.from_residual.ensures.1 in
    rw (p.1, p.2)
    (fault_came c.no_frame_begins_another.ensures GivesFrames HasFrames (HoldsFrames c.loop-count.frames) c.loop-count._count (g.R.Read.remaining c.args.r.now) (g.R.Read.remaining c.loop-count.r)
    (g.R.Read.remaining c.next_part.new.r) c.in_err-message.field-0.0 c.loop-count-test.true c.loop-count.invariant c.in_err-message.ensures)

pub returns : goal.returns
returns g c =
    let most = c.loop-count.auto._count-end in
    let least = c.loop-count-test.false in
    too_many_came c.no_frame_begins_another.ensures GivesFrames HasFrames (HoldsFrames c.loop-count.frames) c.loop-count._count (g.R.Read.remaining c.args.r.now) (g.R.Read.remaining c.loop-count.r)
    (omega (arith, most, least)) c.loop-count.invariant
