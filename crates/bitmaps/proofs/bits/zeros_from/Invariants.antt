use Rattle.std.proofs.Common.{◌≡◌, ◌≤◌, ◌-◌}
use Rattle.bitmaps.specs.Bits.{bits_of, zeros}
use Rattle.bitmaps.proofs.bits.zeros_from.Given as goal

abbrev pub invariant-loop-done : goal.invariant-loop-done
invariant-loop-done l = (l.done ≤ l.count) × (l.zeros ≡ zeros (bits_of l.bytes l.start l.done))

abbrev pub decreases-loop-done : goal.decreases-loop-done
decreases-loop-done l = l.count - l.done
