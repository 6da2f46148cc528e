use Rattle.std.proofs.Common.{◌≡◌, ℕ, ◌+◌, ◌-◌, ◌<◌, ◌≤◌, true}
use Rattle.bitmaps.specs.Bits.{bit_of}
use Rattle.batch_lengths.proofs.bits.set_bits.Given as goal

abbrev pub invariant-loop-done : goal.invariant-loop-done
invariant-loop-done l = record {
  within : l.done ≤ l.count;
  before : (k : ℕ) → k < l.start → bit_of l.set k ≡ bit_of l.initial.set k;
  these : (k : ℕ) → l.start ≤ k → k < l.start + l.done → bit_of l.set k ≡ true;
  behind : (k : ℕ) → l.start + l.done ≤ k → bit_of l.set k ≡ bit_of l.initial.set k;
}

abbrev pub decreases-loop-done : goal.decreases-loop-done
decreases-loop-done l = l.count - l.done
