use Rattle.std.proofs.Common.{◌≡◌, ◌≤◌, ◌+◌, ◌-◌, ◌/◌, ◌++◌, length, replicate}
use Rattle.std.specs.Vec.{vec_capacity}
use Rattle.bitmaps.specs.Bits.{bits_of}
use Rattle.bitmaps.specs.Packed.{IsKept}
use Rattle.bitmaps.proofs.bitmap.put_equal.Given as goal

abbrev pub invariant-loop-done : goal.invariant-loop-done
invariant-loop-done l =
    (l.done ≤ l.count) × IsKept l.bytes.items (l.from + l.done)
    × (length l.bytes.items + (l.count - l.done + 7) / 8 ≤ vec_capacity l.bytes)
    × (bits_of l.bytes.items 0 (l.from + l.done) ≡ bits_of l.initial.bytes.items 0 l.from ++ replicate l.done l.bit)

abbrev pub decreases-loop-done : goal.decreases-loop-done
decreases-loop-done l = l.count - l.done
