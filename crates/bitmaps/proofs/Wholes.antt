-- Whole bytes of bits.
use Rattle.std.proofs.Common.{◌≡◌, refl, sym, ap, ap₂, ◌∙◌, ℕ, zero, suc, ◌+◌, ◌-◌, ◌*◌, ◌/◌, ◌%◌, ◌<◌, ◌≤◌, ◌==◌, arith, List, ◌++◌, get_or, length, false, append_assoc}
use Rattle.std.specs.Int.{bit_at}
use Rattle.std.specs.Int.Count.{ones}
use Rattle.std.proofs.lemmas.List.{get_or_append_left, get_or-append-add}
use Rattle.bitmaps.specs.Bits.{bit_of, bits_of, zeros}
use Rattle.bitmaps.specs.Packed.{IsKept}
use Rattle.bitmaps.proofs.Lists.{length_bits, get_bits, get_first, same_bits, grown}
use Rattle.bitmaps.proofs.Counting.{counted, zeros_runs, runs}

-- bytes that stand among others have the bits that stand there
pub whole_bit : (bytes part : List ℕ) (start n : ℕ) → start % 8 ≡ 0
    → ((i : ℕ) → i < n → get_or part i 0 ≡ get_or bytes (start / 8 + i) 0)
    → (i : ℕ) → i < 8 * n → bit_of part i ≡ bit_of bytes (start + i)
whole_bit bytes part start n aligned same i within =
    let byte : start / 8 + i / 8 ≡ (start + i) / 8 = omega arith in
    let bit : i % 8 ≡ (start + i) % 8 = omega arith in
    ap₂ (λ x k. bit_at x k == 1) (same (i / 8) (omega arith) ∙ ap (λ k. get_or bytes k 0) byte) bit

pub whole_bits : (bytes part : List ℕ) (start n : ℕ) → (0 < n → start % 8 ≡ 0)
    → ((i : ℕ) → i < n → get_or part i 0 ≡ get_or bytes (start / 8 + i) 0)
    → bits_of part 0 (8 * n) ≡ bits_of bytes start (8 * n)
whole_bits bytes part start zero aligned same = refl
whole_bits bytes part start (suc k) aligned same =
    same_bits (bits_of part 0 (8 * suc k)) (bits_of bytes start (8 * suc k))
    (length_bits part 0 (8 * suc k) ∙ sym (length_bits bytes start (8 * suc k)))
    (λ i within. at i (omega (arith, length_bits part 0 (8 * suc k))))
  where
    at : (i : ℕ) → i < 8 * suc k → get_or (bits_of part 0 (8 * suc k)) i false ≡ get_or (bits_of bytes start (8 * suc k)) i false
    at i small =
        get_first part (8 * suc k) i false small ∙ whole_bit bytes part start (suc k) (aligned (omega arith)) same i small
        ∙ sym (get_bits bytes start (8 * suc k) i false small)

-- one byte more
pub byte_more : (bytes : List ℕ) (k byte : ℕ) → byte ≡ get_or bytes k 0 → byte < 256
    → (zeros (bits_of bytes 0 (8 * (k + 1))) ≡ zeros (bits_of bytes 0 (8 * k)) + (8 - ones byte)) × (ones byte ≤ 8)
byte_more bytes k byte is small =
    let one = counted bytes (8 * k) 8 byte small bits in
    let from_none : 0 + 8 * k ≡ 8 * k = omega arith in
    let longer : 8 * k + 8 ≡ 8 * (k + 1) = omega arith in (
      ap (λ n. zeros (bits_of bytes 0 n)) (sym longer) ∙ zeros_runs bytes 0 (8 * k) 8
          ∙ ap (λ start. zeros (bits_of bytes 0 (8 * k)) + zeros (bits_of bytes start 8)) from_none
          ∙ ap (λ n. zeros (bits_of bytes 0 (8 * k)) + n) one.0,
      one.1,
    )
  where
    bits : (i : ℕ) → i < 8 → bit_of bytes (8 * k + i) ≡ (bit_at byte i == 1)
    bits i within =
        let place : (8 * k + i) / 8 ≡ k = omega arith in
        let bit : (8 * k + i) % 8 ≡ i = omega arith in
        ap₂ (λ x m. bit_at x m == 1) (ap (λ j. get_or bytes j 0) place ∙ sym is) bit

-- whole bytes that are put behind whole bytes, and none behind any
pub put_whole : (old part source : List ℕ) (from start n : ℕ) → IsKept old from → n ≡ length part
    → (0 < n → (from % 8 ≡ 0) × (start % 8 ≡ 0))
    → ((i : ℕ) → i < n → get_or part i 0 ≡ get_or source (start / 8 + i) 0)
    → bits_of (old ++ part) 0 (from + 8 * n) ≡ bits_of old 0 from ++ bits_of source start (8 * n)
put_whole old part source from start n kept long aligned same =
    grown old (old ++ part) from (8 * n) (bits_of source start (8 * n)) (length_bits source start (8 * n)) before put
  where
    before : (j : ℕ) → j < from → bit_of (old ++ part) j ≡ bit_of old j
    before j below = ap (λ x. bit_at x (j % 8) == 1) (get_or_append_left old part 0 (j / 8) (omega (arith, kept.enough)))

    put : (i : ℕ) → i < 8 * n → bit_of (old ++ part) (from + i) ≡ get_or (bits_of source start (8 * n)) i false
    put i within =
        let both = aligned (omega arith) in
        let byte : (from + i) / 8 ≡ length old + i / 8 = omega (arith, kept.enough, both.0) in
        let bit : (from + i) % 8 ≡ i % 8 = omega (arith, both.0) in
        ap₂ (λ x m. bit_at x m == 1)
        (ap (λ k. get_or (old ++ part) k 0) byte ∙ get_or-append-add old part (i / 8) 0) bit
        ∙ whole_bit source part start n both.1 same i within
        ∙ sym (get_bits source start (8 * n) i false within)

-- the rest behind them
pub put_all : (old middle new source : List ℕ) (from start done rest count : ℕ) → done + rest ≡ count
    → bits_of middle 0 (from + done) ≡ bits_of old 0 from ++ bits_of source start done
    → bits_of new 0 (from + done + rest) ≡ bits_of middle 0 (from + done) ++ bits_of source (start + done) rest
    → bits_of new 0 (from + count) ≡ bits_of old 0 from ++ bits_of source start count
put_all old middle new source from start done rest count sum first second =
    let place : from + count ≡ from + done + rest = omega arith in
    ap (bits_of new 0) place ∙ second ∙ ap (λ bits. bits ++ bits_of source (start + done) rest) first
    ∙ append_assoc (bits_of old 0 from) (bits_of source start done) (bits_of source (start + done) rest)
    ∙ ap (λ bits. bits_of old 0 from ++ bits) (sym (runs source start done rest))
    ∙ ap (λ k. bits_of old 0 from ++ bits_of source start k) sum
