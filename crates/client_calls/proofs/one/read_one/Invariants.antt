use Rattle.grpc_frames.specs.FrameFaults.{WhereKnown}
use Rattle.client_calls.specs.Parts.{IsKept, HasRead}
use Rattle.client_calls.proofs.one.read_one.Given as goal

abbrev pub invariant-loop-count : goal.invariant-loop-count
invariant-loop-count g l =
    WhereKnown (g.R.Read.remaining l.initial.r) (g.R.Read.remaining l.r) (HasRead (IsKept l.kept) l._count)
