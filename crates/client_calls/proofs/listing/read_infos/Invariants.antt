use Rattle.grpc_frames.specs.FrameFaults.{WhereKnown}
use Rattle.client_calls.specs.Parts.{HasRead, IsListed}
use Rattle.client_calls.proofs.listing.read_infos.Given as goal

abbrev pub invariant-loop-count : goal.invariant-loop-count
invariant-loop-count g l =
    WhereKnown (g.R.Read.remaining l.initial.r) (g.R.Read.remaining l.r) (HasRead (IsListed l.listing) l._count)
