-- Lists of bits that are joined byte by byte.
use Rattle.std.proofs.Common.{◌≡◌, refl, ap, ap₂, ◌∙◌, ℕ, zero, suc, ◌+◌, ◌/◌, ◌%◌, ◌<◌, ◌==◌, ◌&&◌, min, Bool, not, if◌then◌else◌, arith, List, ◌∷◌, map, get_or, length, bit_and, bit_xor}
use Rattle.std.specs.Int.{bit_at}
use Rattle.std.specs.List.{range_with_len, zip}
use Rattle.std.proofs.lemmas.Nat.Bits.{bit_at-lt, bit_at_and, bit_at_xor}
use Rattle.bitmaps.specs.Bits.{bit_of, bits_of}
use Rattle.bitmaps.specs.Packed.{IsKept}
use Rattle.bitmaps.specs.Joined.{set_in_both, set_in_one}

both_set : (a b : ℕ) → a < 2 → b < 2 → (min a b == 1) ≡ ((a == 1) && (b == 1))
both_set zero zero la lb = refl
both_set zero (suc zero) la lb = refl
both_set (suc zero) zero la lb = refl
both_set (suc zero) (suc zero) la lb = refl
both_set (suc (suc a)) b la lb = absurd (omega arith)
both_set zero (suc (suc b)) la lb = absurd (omega arith)
both_set (suc zero) (suc (suc b)) la lb = absurd (omega arith)

one_set : (a b : ℕ) → a < 2 → b < 2 → ((a + b) % 2 == 1) ≡ (if a == 1 then not (b == 1) else (b == 1))
one_set zero zero la lb = refl
one_set zero (suc zero) la lb = refl
one_set (suc zero) zero la lb = refl
one_set (suc zero) (suc zero) la lb = refl
one_set (suc (suc a)) b la lb = absurd (omega arith)
one_set zero (suc (suc b)) la lb = absurd (omega arith)
one_set (suc zero) (suc (suc b)) la lb = absurd (omega arith)

joined_run : (op : Bool → Bool → Bool) (f g h : ℕ → Bool) → ((j : ℕ) → h j ≡ op (f j) (g j)) → (start n : ℕ)
    → map h (range_with_len start n) ≡ map (λ bits. op bits.0 bits.1) (zip (map f (range_with_len start n)) (map g (range_with_len start n)))
joined_run op f g h each start zero = refl
joined_run op f g h each start (suc n) = ap₂ (λ x xs. x ∷ xs) (each start) (joined_run op f g h each (start + 1) n)

module _ (old other new : List ℕ) (each : (k : ℕ) → get_or new k 0 ≡ bit_and (get_or old k 0) (get_or other k 0)) where
  and_bit : (j : ℕ) → bit_of new j ≡ (bit_of old j && bit_of other j)
  and_bit j =
      ap (λ x. bit_at x (j % 8) == 1) (each (j / 8))
      ∙ ap (λ d. d == 1) (bit_at_and (get_or old (j / 8) 0) (get_or other (j / 8) 0) (j % 8))
      ∙ both_set (bit_at (get_or old (j / 8) 0) (j % 8)) (bit_at (get_or other (j / 8) 0) (j % 8))
      (bit_at-lt (get_or old (j / 8) 0) (j % 8)) (bit_at-lt (get_or other (j / 8) 0) (j % 8))

  pub and_bits : (n : ℕ) → bits_of new 0 n ≡ set_in_both (bits_of old 0 n) (bits_of other 0 n)
  and_bits n = joined_run (λ x y. x && y) (bit_of old) (bit_of other) (bit_of new) and_bit 0 n

  pub and_kept : (n : ℕ) → length new ≡ length old → IsKept old n → IsKept new n
  and_kept n same kept = record {
    enough = same ∙ kept.enough;
    clear = λ j past. and_bit j ∙ ap (λ x. x && bit_of other j) (kept.clear j past);
  }

module _ (old other new : List ℕ) (each : (k : ℕ) → get_or new k 0 ≡ bit_xor (get_or old k 0) (get_or other k 0)) where
  xor_bit : (j : ℕ) → bit_of new j ≡ (if bit_of old j then not (bit_of other j) else bit_of other j)
  xor_bit j =
      ap (λ x. bit_at x (j % 8) == 1) (each (j / 8))
      ∙ ap (λ d. d == 1) (bit_at_xor (get_or old (j / 8) 0) (get_or other (j / 8) 0) (j % 8))
      ∙ one_set (bit_at (get_or old (j / 8) 0) (j % 8)) (bit_at (get_or other (j / 8) 0) (j % 8))
      (bit_at-lt (get_or old (j / 8) 0) (j % 8)) (bit_at-lt (get_or other (j / 8) 0) (j % 8))

  pub xor_bits : (n : ℕ) → bits_of new 0 n ≡ set_in_one (bits_of old 0 n) (bits_of other 0 n)
  xor_bits n = joined_run (λ x y. if x then not y else y) (bit_of old) (bit_of other) (bit_of new) xor_bit 0 n

  pub xor_kept : (n : ℕ) → length new ≡ length old → IsKept old n → IsKept other n → IsKept new n
  xor_kept n same kept other_kept = record {
    enough = same ∙ kept.enough;
    clear = λ j past.
        xor_bit j ∙ ap (λ x. if x then not (bit_of other j) else bit_of other j) (kept.clear j past) ∙ other_kept.clear j past;
  }
