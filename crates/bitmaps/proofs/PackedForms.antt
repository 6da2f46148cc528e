-- What the definitions say, in the words of the columnar format.
use Rattle.std.proofs.Common.{◌≡◌, refl, sym, ap, ◌∙◌, ℕ, zero, suc, ◌+◌, ◌*◌, ◌/◌, ◌%◌, ◌^◌, ◌<◌, ◌≤◌, ◌==◌, Bool, true, false, arith, List, [], ◌∷◌, get_or, length, ext_get_or, true≢false}
use Rattle.std.specs.Int.{bit_at}
use Rattle.std.proofs.lemmas.Nat.Bits.{bit_at-lt, bit_at-zero, same_from_bits_below}
use Rattle.std.proofs.Math.ListN.{get_or-eq_default}
use Rattle.bitmaps.specs.Bits.{bit_of, bits_of, zeros}
use Rattle.bitmaps.specs.Packed.{IsPacked}
use Rattle.bitmaps.proofs.Lists.{length_bits, get_first, same_bits}
use Rattle.bitmaps.proofs.Counting.{zeros_first}

pub first_byte : (byte : ℕ) (rest : List ℕ) (j : ℕ) → j < 8 → bit_of (byte ∷ rest) j ≡ (byte / 2 ^ j % 2 == 1)
first_byte byte rest j low =
    let here : j / 8 ≡ 0 = omega arith in
    let place : j % 8 ≡ j = omega arith in
    rw here (rw place refl)

pub next_byte : (byte : ℕ) (rest : List ℕ) (j : ℕ) → bit_of (byte ∷ rest) (8 + j) ≡ bit_of rest j
next_byte byte rest j =
    let there : (8 + j) / 8 ≡ suc (j / 8) = omega arith in
    let place : (8 + j) % 8 ≡ j % 8 = omega arith in
    rw there (rw place refl)

pub no_bytes : (j : ℕ) → bit_of [] j ≡ false
no_bytes j = ap (λ d. d == 1) (bit_at-zero (j % 8))

pub unset_counts : (rest : List Bool) → zeros (false ∷ rest) ≡ 1 + zeros rest
unset_counts rest = zeros_first false rest

pub set_counts : (rest : List Bool) → zeros (true ∷ rest) ≡ zeros rest
set_counts rest = zeros_first true rest ∙ omega arith

-- digits that are equal to 1 at once are equal
same_digit : (a b : ℕ) → a < 2 → b < 2 → (a == 1) ≡ (b == 1) → a ≡ b
same_digit zero zero small little same = refl
same_digit zero (suc zero) small little same = absurd (true≢false (sym same))
same_digit (suc zero) zero small little same = absurd (true≢false same)
same_digit (suc zero) (suc zero) small little same = refl
same_digit (suc (suc a)) b small little same = absurd (omega arith)
same_digit zero (suc (suc b)) small little same = absurd (omega arith)
same_digit (suc zero) (suc (suc b)) small little same = absurd (omega arith)

same_bytes : (x y : List ℕ) → ((j : ℕ) → bit_of x j ≡ bit_of y j) → (k : ℕ)
    → get_or x k 0 < 256 → get_or y k 0 < 256 → get_or x k 0 ≡ get_or y k 0
same_bytes x y same k small little = same_from_bits_below 8 (get_or x k 0) (get_or y k 0) small little digit
  where
    digit : (m : ℕ) → m < 8 → bit_at (get_or x k 0) m ≡ bit_at (get_or y k 0) m
    digit m low =
        let byte : (8 * k + m) / 8 ≡ k = omega arith in
        let place : (8 * k + m) % 8 ≡ m = omega arith in
        let at : (z : List ℕ) → bit_of z (8 * k + m) ≡ (bit_at (get_or z k 0) m == 1) = λ z. rw byte (rw place refl) in
        same_digit (bit_at (get_or x k 0) m) (bit_at (get_or y k 0) m) (bit_at-lt (get_or x k 0) m) (bit_at-lt (get_or y k 0) m)
        (sym (at x) ∙ same (8 * k + m) ∙ at y)

pub one_form : (bits : List Bool) (x y : List ℕ) → ((k : ℕ) → get_or x k 0 < 256) → ((k : ℕ) → get_or y k 0 < 256)
    → IsPacked bits x → IsPacked bits y → x ≡ y
one_form bits x y small little px py =
    ext_get_or 0 x y (px.enough ∙ sym py.enough)
    (λ k within. same_bytes x y (λ j. px.held j ∙ sym (py.held j)) k (small k) (little k))

pub one_list : (x y : List Bool) (bytes : List ℕ) → IsPacked x bytes → IsPacked y bytes → length x ≡ length y → x ≡ y
one_list x y bytes px py all = same_bits x y all (λ i within. sym (px.held i) ∙ py.held i)

pub holds_them : (bits : List Bool) (bytes : List ℕ) → IsPacked bits bytes → bits ≡ bits_of bytes 0 (length bits)
holds_them bits bytes p =
    same_bits bits (bits_of bytes 0 (length bits)) (sym (length_bits bytes 0 (length bits)))
    (λ i within. sym (p.held i) ∙ sym (get_first bytes (length bits) i false within))

pub clear_behind : (bits : List Bool) (bytes : List ℕ) (j : ℕ) → IsPacked bits bytes → length bits ≤ j → bit_of bytes j ≡ false
clear_behind bits bytes j p behind = p.held j ∙ get_or-eq_default bits false behind
