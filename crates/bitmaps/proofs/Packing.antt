-- The bytes that are made of a list of bits are its packed form.
use Rattle.std.proofs.Common.{◌≡◌, sym, ap, ◌∙◌, ℕ, zero, suc, ◌+◌, ◌*◌, ◌/◌, ◌%◌, ◌<◌, ◌≤◌, ◌==◌, ◌^◌, Bool, true, false, arith, List, [], ◌∷◌, get_or, length, take, drop, get_or-take, get_or-drop, length-take, inl, inr, ◌⊎◌, pow_mono}
use native.Mathlib.Nat.{pow-suc}
use Rattle.std.specs.Int.{bit_at}
use Rattle.std.proofs.lemmas.Bool.{cases_lt}
use Rattle.std.proofs.lemmas.List.FromFn.{length-map-range_with_len, get_or-map-range_with_len}
use Rattle.std.proofs.lemmas.Nat.Bits.{bit_at-zero, bit_at_lowest, bit_at-suc}
use Rattle.std.proofs.Math.ListN.{get_or-eq_default}
use Rattle.bitmaps.specs.Bits.{bit_of}
use Rattle.bitmaps.specs.Packed.{IsPacked}
use Rattle.bitmaps.specs.Packing.{number_of, packed_bytes}
use Rattle.bitmaps.proofs.PackedForms.{one_form}

digit_of : (bits : List Bool) (i : ℕ) → (bit_at (number_of bits) i == 1) ≡ get_or bits i false
digit_of [] i = ap (λ d. d == 1) (bit_at-zero i)
digit_of (true ∷ bits) zero =
    let odd : (1 + 2 * number_of bits) % 2 ≡ 1 = omega arith in
    ap (λ d. d == 1) (bit_at_lowest (1 + 2 * number_of bits) ∙ odd)
digit_of (false ∷ bits) zero =
    let even : (2 * number_of bits) % 2 ≡ 0 = omega arith in
    ap (λ d. d == 1) (bit_at_lowest (2 * number_of bits) ∙ even)
digit_of (true ∷ bits) (suc i) =
    let half : (1 + 2 * number_of bits) / 2 ≡ number_of bits = omega arith in
    ap (λ d. d == 1) (bit_at-suc (1 + 2 * number_of bits) i ∙ ap (λ n. bit_at n i) half) ∙ digit_of bits i
digit_of (false ∷ bits) (suc i) =
    let half : (2 * number_of bits) / 2 ≡ number_of bits = omega arith in
    ap (λ d. d == 1) (bit_at-suc (2 * number_of bits) i ∙ ap (λ n. bit_at n i) half) ∙ digit_of bits i

number_small : (bits : List Bool) → number_of bits < 2 ^ length bits
number_small [] = omega arith
number_small (true ∷ bits) = omega (arith, number_small bits, pow-suc 2 (length bits))
number_small (false ∷ bits) = omega (arith, number_small bits, pow-suc 2 (length bits))

number_of_eight : (bits : List Bool) → length bits ≤ 8 → number_of bits < 256
number_of_eight bits few =
    let most : 2 ^ length bits ≤ 2 ^ 8 = pow_mono few in
    omega (arith, number_small bits, most)

module _ (bits : List Bool) where
  abbrev byte : ℕ → ℕ
  byte k = number_of (take 8 (drop (8 * k) bits))

  abbrev count : ℕ
  count = (length bits + 7) / 8

  pub is_packed : IsPacked bits (packed_bytes bits)
  is_packed = record {
    enough = length-map-range_with_len byte 0 count;
    held = λ j. at j (cases_lt (j / 8) count);
  }
    where
      within_byte : (j : ℕ) → (bit_at (byte (j / 8)) (j % 8) == 1) ≡ get_or bits j false
      within_byte j =
          let place : 8 * (j / 8) + j % 8 ≡ j = omega arith in
          digit_of (take 8 (drop (8 * (j / 8)) bits)) (j % 8)
          ∙ get_or-take 8 (drop (8 * (j / 8)) bits) (j % 8) false (omega arith)
          ∙ get_or-drop (8 * (j / 8)) bits (j % 8) false
          ∙ ap (λ i. get_or bits i false) place

      at : (j : ℕ) → (j / 8 < count) ⊎ (count ≤ j / 8) → bit_of (packed_bytes bits) j ≡ get_or bits j false
      at j (inl within) =
          ap (λ b. bit_at b (j % 8) == 1) (get_or-map-range_with_len byte 0 count (j / 8) (j / 8) 0 within (omega arith))
          ∙ within_byte j
      at j (inr past) =
          ap (λ b. bit_at b (j % 8) == 1) (get_or-eq_default (packed_bytes bits) 0 (omega (arith, length-map-range_with_len byte 0 count)))
          ∙ ap (λ d. d == 1) (bit_at-zero (j % 8)) ∙ sym (get_or-eq_default bits false (omega arith))

  pub are_bytes : (k : ℕ) → get_or (packed_bytes bits) k 0 < 256
  are_bytes k = at (cases_lt k count)
    where
      at : (k < count) ⊎ (count ≤ k) → get_or (packed_bytes bits) k 0 < 256
      at (inl within) =
          omega (
            arith,
            get_or-map-range_with_len byte 0 count k k 0 within (omega arith),
            number_of_eight (take 8 (drop (8 * k) bits)) (omega (arith, length-take 8 (drop (8 * k) bits))),
          )
      at (inr past) =
          let beyond : length (packed_bytes bits) ≤ k = omega (arith, length-map-range_with_len byte 0 count) in
          let none : get_or (packed_bytes bits) k 0 ≡ 0 = get_or-eq_default (packed_bytes bits) 0 beyond in
          omega (arith, none)

  -- any packed form in bytes is this one
  pub only_form : (bytes : List ℕ) → ((k : ℕ) → get_or bytes k 0 < 256) → IsPacked bits bytes → bytes ≡ packed_bytes bits
  only_form bytes small held = one_form bits bytes (packed_bytes bits) small are_bytes held is_packed
