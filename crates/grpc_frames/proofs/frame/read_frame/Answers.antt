use Rattle.std.proofs.Common.{sym, subst}
use Rattle.grpc_frames.specs.FrameFaults.{WhereKnown, ReadsFrame}
use Rattle.grpc_frames.proofs.FrameParts.{header_refused, payload_failed, payload_came, residual}
use Rattle.grpc_frames.proofs.FrameTexts.{frame_read_back}
use Rattle.grpc_frames.proofs.FrameJudgement.{told_unless_refused}
use Rattle.grpc_frames.proofs.frame.read_frame.Goals as goal

pub returns-in_err-len-clause-read : goal.returns-in_err-len-clause-read
returns-in_err-len-clause-read g c =
    let e = c.in_err-len.field-0.0 in
    subst (λ r. WhereKnown (g.R.Read.remaining c.args.r.now) (g.R.Read.remaining c.read_header.new.r) (ReadsFrame r)) (sym (residual c.from_residual-in_err-len.result e c.from_residual-in_err-len.ensures.1))
    (header_refused _ _ c.in-Some.header e (rw c.in-Some.is at c.in_ok-header.ensures.read) c.in_err-len.ensures.fault)

pub returns-in_err-payload-clause-read : goal.returns-in_err-payload-clause-read
returns-in_err-payload-clause-read g c =
    let e = c.in_err-payload.field-0.0 in
    subst (λ r. WhereKnown (g.R.Read.remaining c.args.r.now) (g.R.Read.remaining c.read_payload.new.r) (ReadsFrame r)) (sym (residual c.from_residual-in_err-payload.result e c.from_residual-in_err-payload.ensures.1))
    (payload_failed _ _ _ c.in-Some.header _ e (rw c.in-Some.is at c.in_ok-header.ensures.read) c.in_ok-len.ensures.len c.in_ok-len.ensures.flag c.in_ok-len.ensures.limit c.in_err-payload.ensures.fault)

pub returns-clause-frame : goal.returns-clause-frame
returns-clause-frame g c f rest h e =
    let read = payload_came _ _ _ c.in-Some.header _ c.in_ok-payload.payload.items (rw c.in-Some.is at c.in_ok-header.ensures.read) c.in_ok-len.ensures.len c.in_ok-len.ensures.flag c.in_ok-len.ensures.limit c.in_ok-payload.ensures.len c.in_ok-payload.ensures.bytes in
    frame_read_back _ _ _ f rest read h e

pub returns-clause-fault : goal.returns-clause-fault
returns-clause-fault g c e text of_text stands is =
    let read = payload_came _ _ _ c.in-Some.header _ c.in_ok-payload.payload.items (rw c.in-Some.is at c.in_ok-header.ensures.read) c.in_ok-len.ensures.len c.in_ok-len.ensures.flag c.in_ok-len.ensures.limit c.in_ok-payload.ensures.len c.in_ok-payload.ensures.bytes in
    told_unless_refused _ _ _ e text read of_text stands is

pub returns-in_err-len-clause-fault : goal.returns-in_err-len-clause-fault
returns-in_err-len-clause-fault g c e text of_text stands is =
    told_unless_refused _ _ _ e text (returns-in_err-len-clause-read g c) of_text stands is

pub returns-in_err-payload-clause-fault : goal.returns-in_err-payload-clause-fault
returns-in_err-payload-clause-fault g c e text of_text stands is =
    told_unless_refused _ _ _ e text (returns-in_err-payload-clause-read g c) of_text stands is
