use Rattle.std.proofs.Common.{◌≡◌, ℕ, ◌+◌, ◌*◌, ◌<◌, ◌&&◌, length}
use Rattle.bitmaps.specs.Bits.{bit_of}
use Rattle.batch_reading.specs.Taken.{valid_in}
use Rattle.batch_lengths.specs.Along.{mark_of}
use Rattle.batch_lengths.proofs.validity_mask.ValidityMask.taken.Given as goal

abbrev pub invariant-loop-place : goal.invariant-loop-place
invariant-loop-place l = record {
  long : length l.set ≡ 128;
  each : (k : ℕ) → k < 8 * l.place → bit_of l.set k ≡ (mark_of l.self k && valid_in l.validity (l.self.start + k));
}
