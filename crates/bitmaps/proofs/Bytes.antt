-- Bits of a byte: masked, and taken from two bytes that stand side by side.
use Rattle.std.proofs.Common.{◌≡◌, refl, sym, ap, ◌∙◌, ℕ, ◌+◌, ◌-◌, ◌*◌, ◌/◌, ◌%◌, ◌^◌, ◌<◌, ◌≤◌, ◌==◌, nat_lt, if◌then◌else◌, arith, max, min, List, get_or, bit_and, bit_or, inl, inr, ◌⊎◌, ◌≢◌, pow_pos}
use Rattle.std.specs.Int.{bit_at}
use Rattle.std.proofs.lemmas.Bool.{cases_lt, le-ltb, lt-ltb}
use Rattle.std.proofs.lemmas.Nat.{shr-shr, and_mask, one_shl}
use Rattle.std.proofs.lemmas.Nat.Bits.{bit_at-lt, bit_at-zero, bit_at_and, bit_at_or, bit_at_ones, bit_at_ones_above, bit_at_above, bit_at_cat_low, bit_at_cat_high}
use Rattle.bitmaps.specs.Bits.{bit_of}

-- `n >> k`
pub bit_at_shr : (n k i : ℕ) → bit_at (n / 2 ^ k) i ≡ bit_at n (k + i)
bit_at_shr n k i = ap (λ x. x % 2) (shr-shr n k i)

-- `n % 2 ^ w`
pub bit_at_mod : (n w i : ℕ) → i < w → bit_at (n % 2 ^ w) i ≡ bit_at n i
bit_at_mod n w i low =
    ap (λ x. bit_at x i) (sym (and_mask n w)) ∙ bit_at_and n (2 ^ w - 1) i
    ∙ omega (arith, bit_at_ones w i low, bit_at-lt n i)

-- `n << k`
pub bit_at_shl_high : (n k i : ℕ) → k ≤ i → bit_at (n * 2 ^ k) i ≡ bit_at n (i - k)
bit_at_shl_high n k i high =
    let whole : n * 2 ^ k ≡ n * 2 ^ k + 0 = omega arith in
    let below : 0 < 2 ^ k = omega (arith, pow_pos k) in
    ap (λ x. bit_at x i) whole ∙ bit_at_cat_high n k 0 i below high

pub bit_at_shl_low : (n k i : ℕ) → i < k → bit_at (n * 2 ^ k) i ≡ 0
bit_at_shl_low n k i low =
    let whole : n * 2 ^ k ≡ n * 2 ^ k + 0 = omega arith in
    ap (λ x. bit_at x i) whole ∙ bit_at_cat_low n k 0 i low ∙ bit_at-zero i

-- a byte with its lowest bits kept, fewer than eight
pub kept_low : (byte count i : ℕ) → count < 8
    → bit_at (bit_and byte (1 * 2 ^ count % 256 - 1)) i ≡ (if nat_lt i count then bit_at byte i else 0)
kept_low byte count i few =
    ap (λ m. bit_at (bit_and byte (m - 1)) i) (one_shl count 8 few) ∙ bit_at_and byte (2 ^ count - 1) i
    ∙ by_place (cases_lt i count)
  where
    by_place : (i < count) ⊎ (count ≤ i) → min (bit_at byte i) (bit_at (2 ^ count - 1) i) ≡ (if nat_lt i count then bit_at byte i else 0)
    by_place (inl low) = rw (lt-ltb _ _ low) (omega (arith, bit_at_ones count i low, bit_at-lt byte i))
    by_place (inr high) = rw (le-ltb _ _ high) (omega (arith, bit_at_ones_above count i high))

-- all eight bits of it kept
pub kept_whole : (byte count i : ℕ) → byte < 256 → 8 ≤ count → bit_at byte i ≡ (if nat_lt i count then bit_at byte i else 0)
kept_whole byte count i small many = by_place (cases_lt i count)
  where
    by_place : (i < count) ⊎ (count ≤ i) → bit_at byte i ≡ (if nat_lt i count then bit_at byte i else 0)
    by_place (inl low) = rw (lt-ltb _ _ low) refl
    by_place (inr high) = rw (le-ltb _ _ high) (bit_at_above byte 8 i small (omega arith))

-- eight bits across two bytes: those of the first from r on, then those of the second
pub crossing : (a b r i : ℕ) → a < 256 → 0 < r → r < 8 → i < 8
    → bit_at (bit_or (a / 2 ^ r) (b * 2 ^ (8 - r) % 256)) i ≡ (if nat_lt (r + i) 8 then bit_at a (r + i) else bit_at b (r + i - 8))
crossing a b r i small some part low =
    bit_at_or (a / 2 ^ r) (b * 2 ^ (8 - r) % 256) i
    ∙ by_place (cases_lt (r + i) 8)
  where
    second : bit_at (b * 2 ^ (8 - r) % 256) i ≡ bit_at (b * 2 ^ (8 - r)) i
    second = bit_at_mod (b * 2 ^ (8 - r)) 8 i low

    by_place : (r + i < 8) ⊎ (8 ≤ r + i) → max (bit_at (a / 2 ^ r) i) (bit_at (b * 2 ^ (8 - r) % 256) i) ≡ (if nat_lt (r + i) 8 then bit_at a (r + i) else bit_at b (r + i - 8))
    by_place (inl first) = rw (lt-ltb _ _ first) (omega (arith, bit_at_shr a r i, second, bit_at_shl_low b (8 - r) i (omega arith)))
    by_place (inr behind) =
        let place : i - (8 - r) ≡ r + i - 8 = omega arith in
        rw (le-ltb _ _ behind)
        (omega (arith, bit_at_shr a r i, bit_at_above a 8 (r + i) small behind, second, bit_at_shl_high b (8 - r) i (omega arith), ap (bit_at b) place))

-- the eight bits from a bit on, where its byte and the next one stand
pub eight_from : (bytes : List ℕ) (start a b i : ℕ) → a ≡ get_or bytes (start / 8) 0 → b ≡ get_or bytes (start / 8 + 1) 0
    → a < 256 → start % 8 ≢ 0 → i < 8
    → (bit_at (bit_or (a / 2 ^ (start % 8)) (b * 2 ^ (8 - start % 8) % 256)) i == 1) ≡ bit_of bytes (start + i)
eight_from bytes start a b i first second small crosses low =
    ap (λ d. d == 1) (crossing a b (start % 8) i small (omega arith) (omega arith) low) ∙ by_place (cases_lt (start % 8 + i) 8)
  where
    by_place : (start % 8 + i < 8) ⊎ (8 ≤ start % 8 + i)
        → ((if nat_lt (start % 8 + i) 8 then bit_at a (start % 8 + i) else bit_at b (start % 8 + i - 8)) == 1) ≡ bit_of bytes (start + i)
    by_place (inl here) =
        let byte : start / 8 ≡ (start + i) / 8 = omega arith in
        let place : start % 8 + i ≡ (start + i) % 8 = omega arith in
        rw (lt-ltb _ _ here) (rw first (rw byte (rw place refl)))
    by_place (inr next) =
        let byte : start / 8 + 1 ≡ (start + i) / 8 = omega arith in
        let place : start % 8 + i - 8 ≡ (start + i) % 8 = omega arith in
        rw (le-ltb _ _ next) (rw second (rw byte (rw place refl)))

-- the same where they are one byte
pub eight_here : (bytes : List ℕ) (start a i : ℕ) → a ≡ get_or bytes (start / 8) 0 → start % 8 ≡ 0 → i < 8
    → (bit_at (a / 2 ^ (start % 8)) i == 1) ≡ bit_of bytes (start + i)
eight_here bytes start a i first whole low =
    let byte : start / 8 ≡ (start + i) / 8 = omega arith in
    let place : start % 8 + i ≡ (start + i) % 8 = omega arith in
    ap (λ d. d == 1) (bit_at_shr a (start % 8) i) ∙ rw first (rw byte (rw place refl))
