use Rattle.std.proofs.lemmas.Result.{err_from_is_err_and}
use Rattle.flight_calls.proofs.Writing.{one_more, part_of_one}
use Rattle.flight_calls.proofs.sending.put_frames.Goals as goal

pub loop-frame-preserved : goal.loop-frame-preserved
loop-frame-preserved g c =
    one_more c.args.frames.now c.loop-frame.frame-index c.frame-item.result c.as_slice.result.now c.loop-frame-test.true c.frame-item.is c.as_slice.ensures
    (g.W.Write.contents c.args.w.now) (g.W.Write.contents c.loop-frame.w) (g.W.Write.contents c.put.new.w) c.loop-frame.invariant c.in_ok-put.ensures.written

pub returns-in_err-put : goal.returns-in_err-put
returns-in_err-put g c =
    let p = err_from_is_err_and c.from_residual.result c.from_residual.ensures.1 in
    rw (p.1, p.2)
    (part_of_one c.args.frames.now c.loop-frame.frame-index c.frame-item.result c.as_slice.result.now c.loop-frame-test.true c.frame-item.is c.as_slice.ensures
    c.in_err-put.field-0.0 (g.W.Write.contents c.args.w.now) (g.W.Write.contents c.loop-frame.w) (g.W.Write.contents c.put.new.w) c.loop-frame.invariant c.in_err-put.ensures.written)
