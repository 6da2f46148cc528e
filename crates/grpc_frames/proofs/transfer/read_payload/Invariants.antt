-- The payload so far is what was read, and there is room for no more.
use Rattle.std.proofs.Common.{◌≡◌, ◌≤◌, ◌-◌, vec_len}
use Rattle.std.specs.Vec.{vec_capacity}
use Rattle.std.specs.Io.KnownBytes.{Consumes}
use Rattle.grpc_frames.proofs.transfer.read_payload.Given as goal

abbrev pub invariant-loop-r : goal.invariant-loop-r
invariant-loop-r g l =
    (vec_len l.payload ≤ l.len) × Consumes (g.R.Read.remaining l.fn.r) (g.R.Read.remaining l.r) l.payload.items
    × (vec_capacity l.payload ≡ vec_len l.payload)

abbrev pub decreases-loop-r : goal.decreases-loop-r
decreases-loop-r g l = l.len - vec_len l.payload
