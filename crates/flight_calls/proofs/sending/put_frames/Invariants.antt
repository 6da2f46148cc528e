use Rattle.grpc_frames.specs.FrameFaults.{WhereKnown}
use Rattle.flight_calls.proofs.Writing.{HaveGone}
use Rattle.flight_calls.proofs.sending.put_frames.Given as goal

abbrev pub invariant-loop-frame : goal.invariant-loop-frame
invariant-loop-frame g l =
    WhereKnown (g.W.Write.contents l.fn.w) (g.W.Write.contents l.w) (HaveGone l.frames l.frame-index)
