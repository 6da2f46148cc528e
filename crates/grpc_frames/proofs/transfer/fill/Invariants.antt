-- What was filled is what was read.
use Rattle.std.proofs.Common.{◌≡◌, ◌≤◌, ◌-◌, length, take}
use Rattle.std.specs.Io.KnownBytes.{Consumes}
use Rattle.grpc_frames.proofs.transfer.fill.Given as goal

abbrev pub invariant-loop-at : goal.invariant-loop-at
invariant-loop-at g l = (length l.buf ≡ length l.initial.buf) × (l.at ≤ length l.buf) × Consumes (g.R.Read.remaining l.initial.r) (g.R.Read.remaining l.r) (take l.at l.buf)

abbrev pub decreases-loop-at : goal.decreases-loop-at
decreases-loop-at g l = length l.initial.buf - l.at
