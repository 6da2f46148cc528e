use Rattle.std.proofs.Common.{sym, subst, [], IfErr}
use Rattle.grpc_frames.specs.FrameFaults.{WhereKnown}
use Rattle.grpc_frames.specs.FrameSteps.{FailsBehind}
use Rattle.grpc_frames.proofs.FrameParts.{FailsBehind-came, residual}
use Rattle.grpc_frames.proofs.transfer.read_payload.Goals as goal

pub returns-in_err-read_more-clause-fault : goal.returns-in_err-read_more-clause-fault
returns-in_err-read_more-clause-fault g c =
    let e = c.in_err-read_more.field-0.0 in
    subst (λ r. IfErr r (λ x. WhereKnown (g.R.Read.remaining c.args.r.now) (g.R.Read.remaining c.read_more.new.r) (FailsBehind [] x c.args.len))) (sym (residual c.from_residual.result e c.from_residual.ensures.1))
    (FailsBehind-came _ _ _ _ e c.args.len c.loop-r.invariant.1 c.in_err-read_more.ensures.fault)
