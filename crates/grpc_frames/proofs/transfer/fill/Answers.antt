use Rattle.std.proofs.Common.{rules}
use Rattle.grpc_frames.proofs.Transfers.{Consumes-filled}
use Rattle.grpc_frames.proofs.transfer.fill.Goals as goal

pub loop-at-preserved : goal.loop-at-preserved
loop-at-preserved g c =
    (search rules, search rules, Consumes-filled _ _ _ _ _ _ _ _ c.loop-at.invariant.1 c.in-Ok.ensures.bound.0 c.loop-at.invariant.2 c.in-Ok.ensures.bytes.0)
