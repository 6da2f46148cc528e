use Rattle.grpc_frames.specs.FrameFaults.{WhereKnown}
use Rattle.client_calls.specs.Parts.{HasRead}
use Rattle.client_calls.proofs.Came.{HoldsFrames}
use Rattle.client_calls.proofs.frames.read_frames.Given as goal

abbrev pub invariant-loop-count : goal.invariant-loop-count
invariant-loop-count g l =
    WhereKnown (g.R.Read.remaining l.initial.r) (g.R.Read.remaining l.r) (HasRead (HoldsFrames l.frames) l._count)
