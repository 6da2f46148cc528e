use Rattle.std.proofs.Common.{◌≡◌, ℕ, ◌<◌, ◌≤◌, length, get_or, bit_xor}
use Rattle.bitmaps.proofs.bitmap.xor_bytes.Given as goal

abbrev pub invariant-loop-place : goal.invariant-loop-place
invariant-loop-place l = record {
  long : length l.bytes.items ≡ length l.initial.bytes.items;
  done : (k : ℕ) → k < l.place → get_or l.bytes.items k 0 ≡ bit_xor (get_or l.initial.bytes.items k 0) (get_or l.other k 0);
  left : (k : ℕ) → l.place ≤ k → get_or l.bytes.items k 0 ≡ get_or l.initial.bytes.items k 0;
}
