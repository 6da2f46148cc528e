use Rattle.std.proofs.lemmas.Result.{err_from_is_err_and}
use Rattle.flight_calls.specs.Describing.{message_of}
use Rattle.flight_calls.proofs.Frames.{frames_fail}
use Rattle.flight_calls.proofs.framing.info_frames.Goals as goal

pub returns-in_err-append_info : goal.returns-in_err-append_info
returns-in_err-append_info c =
    let p = err_from_is_err_and c.from_residual.result c.from_residual.ensures.1 in
    rw (p.1, p.2)
    (frames_fail message_of c.args.all.now c.loop-described.described-index c.described-item.result c.in_err-append_info.field-0.0 c.loop-described-test.true c.described-item.is
    c.in_err-append_info.ensures.fault)
