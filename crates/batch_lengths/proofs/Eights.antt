-- Bits of marks, eight in a byte.
use Rattle.std.proofs.Common.{◌≡◌, ◌≢◌, refl, sym, ap, ap₂, ◌∙◌, ℕ, zero, suc, ◌+◌, ◌-◌, ◌*◌, ◌/◌, ◌%◌, ◌^◌, ◌<◌, ◌≤◌, ◌==◌, ◌&&◌, min, max, Bool, true, false, ◌⊎◌, inl, inr, List, length, get_or, slice_set, replicate, bit_and, bit_or, arith}
use Rattle.std.specs.Int.{bit_at, w8, trailing_zeros, trailing_ones}
use Rattle.std.proofs.lemmas.Bool.{cases_lt}
use Rattle.std.proofs.lemmas.List.{get_or-set_same, get_or-set_other}
use Rattle.std.proofs.lemmas.Nat.Bits.{bit_at-lt, bit_at-zero, bit_at_lowest, bit_at_and, bit_at_or, bit_at_ones, bit_at_ones_above, bit_at_above, bit_at-trailing_zeros, bit_at-trailing_ones}
use Rattle.bitmaps.specs.Bits.{bit_of}
use Rattle.bitmaps.proofs.Bytes.{bit_at_shr, bit_at_mod, bit_at_shl_high, bit_at_shl_low}

-- ---- a byte

pub whole_bit : (i : ℕ) → i < 8 → (bit_at 255 i == 1) ≡ true
whole_bit i low = ap (λ d. d == 1) (bit_at_ones 8 i low)

shrunk : (count : ℕ) → 0 < count → count ≤ 8 → 255 / 2 ^ (8 - count) ≡ 2 ^ count - 1
shrunk zero some few = absurd (omega (arith, some))
shrunk (suc zero) some few = refl
shrunk (suc (suc zero)) some few = refl
shrunk (suc (suc (suc zero))) some few = refl
shrunk (suc (suc (suc (suc zero)))) some few = refl
shrunk (suc (suc (suc (suc (suc zero))))) some few = refl
shrunk (suc (suc (suc (suc (suc (suc zero)))))) some few = refl
shrunk (suc (suc (suc (suc (suc (suc (suc zero))))))) some few = refl
shrunk (suc (suc (suc (suc (suc (suc (suc (suc zero)))))))) some few = refl
shrunk (suc (suc (suc (suc (suc (suc (suc (suc (suc n))))))))) some few = absurd (omega (arith, few))

module _ (low count : ℕ) (some : 0 < count) (within : low + count ≤ 8) where
  here : (i : ℕ) → i < 8 → bit_at (255 / 2 ^ (8 - count) * 2 ^ low % 256) i ≡ bit_at ((2 ^ count - 1) * 2 ^ low) i
  here i small =
      bit_at_mod (255 / 2 ^ (8 - count) * 2 ^ low) 8 i small
      ∙ ap (λ n. bit_at (n * 2 ^ low) i) (shrunk count some (omega (arith, within)))

  pub ones_before : (i : ℕ) → i < low → bit_at (255 / 2 ^ (8 - count) * 2 ^ low % 256) i ≡ 0
  ones_before i before = here i (omega (arith, before, within, some)) ∙ bit_at_shl_low (2 ^ count - 1) low i before

  pub ones_these : (i : ℕ) → low ≤ i → i < low + count → bit_at (255 / 2 ^ (8 - count) * 2 ^ low % 256) i ≡ 1
  ones_these i from to =
      here i (omega (arith, to, within)) ∙ bit_at_shl_high (2 ^ count - 1) low i from
      ∙ bit_at_ones count (i - low) (omega (arith, from, to))

  pub ones_behind : (i : ℕ) → low + count ≤ i → bit_at (255 / 2 ^ (8 - count) * 2 ^ low % 256) i ≡ 0
  ones_behind i from = by_place (cases_lt i 8)
    where
      by_place : (i < 8) ⊎ (8 ≤ i) → bit_at (255 / 2 ^ (8 - count) * 2 ^ low % 256) i ≡ 0
      by_place (inl small) =
          here i small ∙ bit_at_shl_high (2 ^ count - 1) low i (omega (arith, from))
          ∙ bit_at_ones_above count (i - low) (omega (arith, from))
      by_place (inr big) = bit_at_above (255 / 2 ^ (8 - count) * 2 ^ low % 256) 8 i (omega arith) big

-- ---- the lowest bits that are alike

pub whole_alike : (byte : ℕ) → (byte ≡ 0) ⊎ ((byte ≡ 0 → ⊥) × (byte ≡ 255)) → (i : ℕ) → i < 8 → bit_at byte i ≡ bit_at byte 0
whole_alike byte (inl is) i low =
    ap (λ b. bit_at b i) is ∙ bit_at-zero i ∙ sym (bit_at-zero 0) ∙ ap (λ b. bit_at b 0) (sym is)
whole_alike byte (inr (some, is)) i low =
    ap (λ b. bit_at b i) is ∙ bit_at_ones 8 i low ∙ sym (bit_at_ones 8 0 (omega arith)) ∙ ap (λ b. bit_at b 0) (sym is)

behind_lowest : (byte n : ℕ) → (bit_at byte n ≡ bit_at byte 0 → ⊥) → 0 < n
behind_lowest byte zero differ = absurd (differ refl)
behind_lowest byte (suc n) differ = omega arith

module _ (byte : ℕ) (small : byte < 256) where
  pub even_some : (byte ≡ 0 → ⊥) → byte % 2 ≡ 0 → 0 < trailing_zeros w8 byte
  even_some some even =
      let at = bit_at-trailing_zeros w8 byte (omega (arith, some)) small in
      behind_lowest byte (trailing_zeros w8 byte) (λ same. omega (arith, at.1, same, bit_at_lowest byte, even))

  pub even_alike : (byte ≡ 0 → ⊥) → byte % 2 ≡ 0 → (i : ℕ) → i < trailing_zeros w8 byte → bit_at byte i ≡ bit_at byte 0
  even_alike some even i below =
      let at = bit_at-trailing_zeros w8 byte (omega (arith, some)) small in
      at.2 i below ∙ sym (bit_at_lowest byte ∙ even)

  pub odd_some : (byte ≡ 255 → ⊥) → (byte % 2 ≡ 0 → ⊥) → 0 < trailing_ones w8 byte
  odd_some other odd =
      let at = bit_at-trailing_ones w8 byte (omega (arith, other, small)) in
      behind_lowest byte (trailing_ones w8 byte) (λ same. omega (arith, at.1, same, bit_at_lowest byte, odd))

  pub odd_alike : (byte ≡ 255 → ⊥) → (byte % 2 ≡ 0 → ⊥) → (i : ℕ) → i < trailing_ones w8 byte → bit_at byte i ≡ bit_at byte 0
  odd_alike other odd i below =
      let at = bit_at-trailing_ones w8 byte (omega (arith, other, small)) in
      let one : byte % 2 ≡ 1 = omega (arith, odd) in
      at.2 i below ∙ sym (bit_at_lowest byte ∙ one)

-- a byte of bits, shifted
pub shifted_bit : (bytes : List ℕ) (start i : ℕ) → start % 8 + i < 8 → (bit_at (get_or bytes (start / 8) 0 / 2 ^ (start % 8)) i == 1) ≡ bit_of bytes (start + i)
shifted_bit bytes start i low =
    let byte : start / 8 ≡ (start + i) / 8 = omega (arith, low) in
    let place : start % 8 + i ≡ (start + i) % 8 = omega (arith, low) in
    ap (λ d. d == 1) (bit_at_shr (get_or bytes (start / 8) 0) (start % 8) i ∙ ap₂ (λ b p. bit_at (get_or bytes b 0) p) byte place)

-- ---- one byte set

module _ (bytes : List ℕ) (start : ℕ) (there : start / 8 < length bytes) where
  with_byte : ℕ → List ℕ
  with_byte made = slice_set bytes (start / 8) made

  elsewhere : (made k : ℕ) → k / 8 ≢ start / 8 → bit_of (slice_set bytes (start / 8) made) k ≡ bit_of bytes k
  elsewhere made k other = ap (λ b. bit_at b (k % 8) == 1) (get_or-set_other bytes (start / 8) (k / 8) made 0 other)

  there_too : (made k : ℕ) → k / 8 ≡ start / 8 → bit_of (slice_set bytes (start / 8) made) k ≡ (bit_at made (k % 8) == 1)
  there_too made k same =
      ap (λ b. bit_at b (k % 8) == 1)
      (ap (λ p. get_or (slice_set bytes (start / 8) made) p 0) same ∙ get_or-set_same bytes (start / 8) made 0 there)

  module _ (some ones : ℕ) (before : (i : ℕ) → i < start % 8 → bit_at ones i ≡ 0)
      (these : (i : ℕ) → start % 8 ≤ i → i < start % 8 + some → bit_at ones i ≡ 1)
      (behind : (i : ℕ) → start % 8 + some ≤ i → bit_at ones i ≡ 0) where
    kept : (k : ℕ) → k / 8 ≡ start / 8 → bit_at ones (k % 8) ≡ 0
        → bit_of (slice_set bytes (start / 8) (bit_or (get_or bytes (start / 8) 0) ones)) k ≡ bit_of bytes k
    kept k same none =
        there_too (bit_or (get_or bytes (start / 8) 0) ones) k same
        ∙ ap (λ d. d == 1) (bit_at_or (get_or bytes (start / 8) 0) ones (k % 8))
        ∙ ap (λ d. d == 1) (least (bit_at (get_or bytes (start / 8) 0) (k % 8)) (bit_at ones (k % 8)) none)
        ∙ ap (λ p. bit_at (get_or bytes p 0) (k % 8) == 1) (sym same)
      where
        least : (d e : ℕ) → e ≡ 0 → max d e ≡ d
        least d e none = omega (arith, none)

    pub set_before : (k : ℕ) → k < start → bit_of (slice_set bytes (start / 8) (bit_or (get_or bytes (start / 8) 0) ones)) k ≡ bit_of bytes k
    set_before k low = by_place (cases_lt (k / 8) (start / 8))
      where
        by_place : (k / 8 < start / 8) ⊎ (start / 8 ≤ k / 8) → bit_of (slice_set bytes (start / 8) (bit_or (get_or bytes (start / 8) 0) ones)) k ≡ bit_of bytes k
        by_place (inl lower) = elsewhere (bit_or (get_or bytes (start / 8) 0) ones) k (λ same. omega (arith, lower, same))
        by_place (inr here) = kept k (omega (arith, here, low)) (before (k % 8) (omega (arith, here, low)))

    pub set_these : (k : ℕ) → start ≤ k → k < start + some → start % 8 + some ≤ 8
        → bit_of (slice_set bytes (start / 8) (bit_or (get_or bytes (start / 8) 0) ones)) k ≡ true
    set_these k from to fits =
        there_too (bit_or (get_or bytes (start / 8) 0) ones) k (omega (arith, from, to, fits))
        ∙ ap (λ d. d == 1) (bit_at_or (get_or bytes (start / 8) 0) ones (k % 8))
        ∙ ap (λ d. max (bit_at (get_or bytes (start / 8) 0) (k % 8)) d == 1) (these (k % 8) (omega (arith, from, to, fits)) (omega (arith, from, to, fits)))
        ∙ ap (λ d. d == 1) (most (bit_at (get_or bytes (start / 8) 0) (k % 8)) (bit_at-lt (get_or bytes (start / 8) 0) (k % 8)))
      where
        most : (d : ℕ) → d < 2 → max d 1 ≡ 1
        most d low = omega (arith, low)

    pub set_behind : (k : ℕ) → start + some ≤ k → bit_of (slice_set bytes (start / 8) (bit_or (get_or bytes (start / 8) 0) ones)) k ≡ bit_of bytes k
    set_behind k from = by_place (cases_lt (start / 8) (k / 8))
      where
        by_place : (start / 8 < k / 8) ⊎ (k / 8 ≤ start / 8) → bit_of (slice_set bytes (start / 8) (bit_or (get_or bytes (start / 8) 0) ones)) k ≡ bit_of bytes k
        by_place (inl higher) = elsewhere (bit_or (get_or bytes (start / 8) 0) ones) k (λ same. omega (arith, higher, same))
        by_place (inr here) = kept k (omega (arith, here, from)) (behind (k % 8) (omega (arith, here, from)))

-- ---- bytes of bits that are set in both of two

both_bits : (x y : ℕ) → x < 2 → y < 2 → (min x y == 1) ≡ ((x == 1) && (y == 1))
both_bits zero zero a b = refl
both_bits zero (suc zero) a b = refl
both_bits (suc zero) zero a b = refl
both_bits (suc zero) (suc zero) a b = refl
both_bits zero (suc (suc y)) a b = absurd (omega (arith, b))
both_bits (suc zero) (suc (suc y)) a b = absurd (omega (arith, b))
both_bits (suc (suc x)) y a b = absurd (omega (arith, a))

module _ (bytes : List ℕ) (place : ℕ) (there : place < length bytes) (mark other : ℕ → Bool) (a b : ℕ)
    (marks : (i : ℕ) → i < 8 → (bit_at a i == 1) ≡ mark (8 * place + i)) (others : (i : ℕ) → i < 8 → (bit_at b i == 1) ≡ other (8 * place + i))
    (each : (k : ℕ) → k < 8 * place → bit_of bytes k ≡ (mark k && other k)) where
  pub and_next : (k : ℕ) → k < 8 * (place + 1) → bit_of (slice_set bytes place (bit_and a b)) k ≡ (mark k && other k)
  and_next k below = by_place (cases_lt k (8 * place))
    where
      by_place : (k < 8 * place) ⊎ (8 * place ≤ k) → bit_of (slice_set bytes place (bit_and a b)) k ≡ (mark k && other k)
      by_place (inl before) =
          ap (λ x. bit_at x (k % 8) == 1) (get_or-set_other bytes place (k / 8) (bit_and a b) 0 (λ same. omega (arith, before, same)))
          ∙ each k before
      by_place (inr from) =
          let byte : k / 8 ≡ place = omega (arith, from, below) in
          let at : 8 * place + k % 8 ≡ k = omega (arith, from, below) in
          let low : k % 8 < 8 = omega arith in
          ap (λ x. bit_at x (k % 8) == 1)
          (ap (λ p. get_or (slice_set bytes place (bit_and a b)) p 0) byte ∙ get_or-set_same bytes place (bit_and a b) 0 there)
          ∙ ap (λ d. d == 1) (bit_at_and a b (k % 8))
          ∙ both_bits (bit_at a (k % 8)) (bit_at b (k % 8)) (bit_at-lt a (k % 8)) (bit_at-lt b (k % 8))
          ∙ ap₂ (λ x y. x && y) (marks (k % 8) low) (others (k % 8) low)
          ∙ ap (λ n. mark n && other n) at

-- ---- bits of marks

pub alike_bits : (set : List ℕ) (number k n : ℕ)
    → ((i : ℕ) → i < n → bit_at (get_or set (number / 8) 0 / 2 ^ (number % 8)) i ≡ bit_at (get_or set (number / 8) 0 / 2 ^ (number % 8)) 0)
    → k < n → number % 8 + k < 8 → bit_of set (number + k) ≡ bit_of set number
alike_bits set number k n same below low =
    let at : number + 0 ≡ number = omega arith in
    sym (shifted_bit set number k low) ∙ ap (λ d. d == 1) (same k below) ∙ shifted_bit set number 0 (omega (arith, low)) ∙ ap (bit_of set) at

pub none_set : (n k : ℕ) → bit_of (replicate n 0) k ≡ false
none_set n k = ap (λ b. bit_at b (k % 8) == 1) (nothing n (k / 8)) ∙ ap (λ d. d == 1) (bit_at-zero (k % 8))
  where
    nothing : (n i : ℕ) → ◌≡◌ {A = ℕ} (get_or (replicate n 0) i 0) 0
    nothing zero i = refl
    nothing (suc n) zero = refl
    nothing (suc n) (suc i) = nothing n i
