-- The vector has grown at its end, within its room.
use Rattle.std.proofs.Common.{◌≡◌, ◌≤◌, ◌-◌, max, vec_len}
use Rattle.std.specs.Vec.{vec_capacity}
use Rattle.std.specs.Io.{StartsWith}
use Rattle.grpc_frames.proofs.transfer.pad.Given as goal

abbrev pub invariant-loop-bytes : goal.invariant-loop-bytes
invariant-loop-bytes l =
    StartsWith l.bytes.items l.initial.bytes.items × (vec_len l.initial.bytes ≤ vec_len l.bytes)
    × (vec_len l.bytes ≤ max (vec_len l.initial.bytes) l.len) × (vec_capacity l.bytes ≡ vec_capacity l.initial.bytes)

abbrev pub decreases-loop-bytes : goal.decreases-loop-bytes
decreases-loop-bytes l = l.len - vec_len l.bytes
