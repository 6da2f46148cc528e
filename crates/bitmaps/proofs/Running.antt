-- A run of bits put behind others, some bits at a time.
use Rattle.std.proofs.Common.{◌≡◌, sym, ap, ◌∙◌, subst, ℕ, ◌+◌, ◌<◌, ◌≤◌, ◌==◌, arith, List, ◌++◌, nat_lt, if◌then◌else◌, append_assoc, get_or, false, Bool, replicate}
use Rattle.std.proofs.lemmas.Bool.{lt-ltb}
use Rattle.std.proofs.lemmas.List.{get_or-replicate, length-replicate, replicate-append-replicate}
use Rattle.std.specs.Int.{bit_at}
use Rattle.bitmaps.specs.Bits.{bit_of, bits_of}
use Rattle.bitmaps.specs.Packed.{IsKept}
use Rattle.bitmaps.proofs.Lists.{length_bits, get_bits, grown}
use Rattle.bitmaps.proofs.Counting.{runs, run_bits}

module _ (first old new source : List ℕ) (from start done run eight byte : ℕ) (few : run ≤ 8)
    (eight_are : (i : ℕ) → i < 8 → (bit_at eight i == 1) ≡ bit_of source (start + done + i))
    (byte_are : (i : ℕ) → bit_at byte i ≡ (if nat_lt i run then bit_at eight i else 0))
    (before : (j : ℕ) → j < from + done → bit_of new j ≡ bit_of old j)
    (put : (i : ℕ) → bit_of new (from + done + i) ≡ (bit_at byte i == 1))
    (so_far : bits_of old 0 (from + done) ≡ bits_of first 0 from ++ bits_of source start done) where
  step : (i : ℕ) → i < run → bit_of new (from + done + i) ≡ get_or (bits_of source (start + done) run) i false
  step i within =
      put i ∙ sym (run_bits source (start + done) run eight byte few eight_are byte_are i within)
      ∙ sym (get_bits source (start + done) run i false within)

  pub put_further : bits_of new 0 (from + (done + run)) ≡ bits_of first 0 from ++ bits_of source start (done + run)
  put_further =
      let place : from + (done + run) ≡ from + done + run = omega arith in
      ap (bits_of new 0) place
      ∙ grown old new (from + done) run (bits_of source (start + done) run) (length_bits source (start + done) run) before step
      ∙ ap (λ bits. bits ++ bits_of source (start + done) run) so_far
      ∙ append_assoc (bits_of first 0 from) (bits_of source start done) (bits_of source (start + done) run)
      ∙ ap (λ bits. bits_of first 0 from ++ bits) (sym (runs source start done run))

pub kept_further : (new : List ℕ) (from done run : ℕ) → IsKept new (from + done + run) → IsKept new (from + (done + run))
kept_further new from done run kept =
    let place : from + done + run ≡ from + (done + run) = omega arith in
    subst (IsKept new) place kept

-- equal bits put behind others
module _ (first old new : List ℕ) (from done run eight byte : ℕ) (bit : Bool) (few : run ≤ 8)
    (eight_are : (i : ℕ) → i < 8 → (bit_at eight i == 1) ≡ bit)
    (byte_are : (i : ℕ) → bit_at byte i ≡ (if nat_lt i run then bit_at eight i else 0))
    (before : (j : ℕ) → j < from + done → bit_of new j ≡ bit_of old j)
    (put : (i : ℕ) → bit_of new (from + done + i) ≡ (bit_at byte i == 1))
    (so_far : bits_of old 0 (from + done) ≡ bits_of first 0 from ++ replicate done bit) where
  equal_step : (i : ℕ) → i < run → bit_of new (from + done + i) ≡ get_or (replicate run bit) i false
  equal_step i within =
      put i
      ∙ ap (λ d. d == 1) (byte_are i ∙ ap (λ test. if test then bit_at eight i else 0) (lt-ltb i run within))
      ∙ eight_are i (omega arith) ∙ sym (get_or-replicate run i bit false within)

  pub equal_further : bits_of new 0 (from + (done + run)) ≡ bits_of first 0 from ++ replicate (done + run) bit
  equal_further =
      let place : from + (done + run) ≡ from + done + run = omega arith in
      ap (bits_of new 0) place
      ∙ grown old new (from + done) run (replicate run bit) (length-replicate run bit) before equal_step
      ∙ ap (λ bits. bits ++ replicate run bit) so_far
      ∙ append_assoc (bits_of first 0 from) (replicate done bit) (replicate run bit)
      ∙ ap (λ bits. bits_of first 0 from ++ bits) (replicate-append-replicate done run bit)
