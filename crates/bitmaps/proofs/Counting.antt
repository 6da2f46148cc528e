-- Bits counted a byte at a time.
use Rattle.std.proofs.Common.{◌≡◌, refl, sym, ap, ◌∙◌, ℕ, zero, suc, ◌+◌, ◌-◌, ◌/◌, ◌%◌, ◌^◌, ◌<◌, ◌≤◌, ◌==◌, Bool, true, false, not, cond, arith, List, [], ◌∷◌, ◌++◌, get_or, nat_lt, if◌then◌else◌, inl, inr, ◌⊎◌, length-append}
use Rattle.std.specs.Int.{bit_at}
use Rattle.std.specs.Int.Count.{ones, ones_step}
use Rattle.std.proofs.lemmas.Bool.{lt-ltb, cases_lt}
use Rattle.std.proofs.lemmas.List.{get_or_append_left}
use Rattle.std.proofs.lemmas.List.Sums.{sum_by-append, count_by-le-length}
use Rattle.std.proofs.Math.Seq.{get_or-append_right}
use Rattle.std.proofs.lemmas.Nat.{ones_le_self}
use native.Mathlib.Nat.{pow-suc}
use Rattle.std.proofs.lemmas.Nat.Bits.{bit_at_lowest, bit_at-suc}
use Rattle.bitmaps.specs.Bits.{bit_of, bits_of, zeros}
use Rattle.bitmaps.proofs.Lists.{length_bits, get_bits, same_bits}

-- how many of a number's lowest bits are not set, so many of them looked at
abbrev pub low_zeros : ℕ → ℕ → ℕ
low_zeros n zero = 0
low_zeros n (suc k) = (1 - n % 2) + low_zeros (n / 2) k

-- the others of them are set, where it has no bits above
pub low_ones : (k n : ℕ) → n < 2 ^ k → low_zeros n k + ones n ≡ k
low_ones zero n small =
    let none : n ≡ 0 = omega arith in
    omega (arith, ones_le_self n)
low_ones (suc k) n small =
    let half : n / 2 < 2 ^ k = omega (arith, pow-suc 2 k) in
    omega (arith, ones_step n, low_ones k (n / 2) half)

-- one bit of a list
zero_bit : (d : ℕ) → d < 2 → cond (not (d == 1)) 1 0 ≡ 1 - d
zero_bit zero small = refl
zero_bit (suc zero) small = refl
zero_bit (suc (suc d)) small = absurd (omega arith)

-- runs of bits, one behind the other
zeros_append : (xs ys : List Bool) → zeros (xs ++ ys) ≡ zeros xs + zeros ys
zeros_append = sum_by-append (λ bit. cond (not bit) 1 0)

pub zeros_first : (bit : Bool) (rest : List Bool) → zeros (bit ∷ rest) ≡ cond (not bit) 1 0 + zeros rest
zeros_first true rest = zeros_append (true ∷ []) rest
zeros_first false rest = zeros_append (false ∷ []) rest

-- a run of bits that are the lowest of a number
pub zeros_low : (bytes : List ℕ) (start k n : ℕ) → ((i : ℕ) → i < k → bit_of bytes (start + i) ≡ (bit_at n i == 1))
    → zeros (bits_of bytes start k) ≡ low_zeros n k
zeros_low bytes start zero n are = refl
zeros_low bytes start (suc k) n are =
    let here : start ≡ start + 0 = omega arith in
    let first : bit_of bytes start ≡ (n % 2 == 1) = ap (bit_of bytes) here ∙ are 0 (omega arith) ∙ ap (λ d. d == 1) (bit_at_lowest n) in
    let rest : zeros (bits_of bytes (start + 1) k) ≡ low_zeros (n / 2) k = zeros_low bytes (start + 1) k (n / 2) later in
    zeros_first (bit_of bytes start) (bits_of bytes (start + 1) k)
    ∙ ap (λ bit. cond (not bit) 1 0 + zeros (bits_of bytes (start + 1) k)) first
    ∙ omega (arith, zero_bit (n % 2) (omega arith), rest)
  where
    later : (i : ℕ) → i < k → bit_of bytes (start + 1 + i) ≡ (bit_at (n / 2) i == 1)
    later i within =
        let place : start + 1 + i ≡ start + suc i = omega arith in
        ap (bit_of bytes) place ∙ are (suc i) (omega arith) ∙ ap (λ d. d == 1) (bit_at-suc n i)

pub runs : (bytes : List ℕ) (start m n : ℕ) → bits_of bytes start (m + n) ≡ bits_of bytes start m ++ bits_of bytes (start + m) n
runs bytes start m n =
    same_bits (bits_of bytes start (m + n)) (bits_of bytes start m ++ bits_of bytes (start + m) n)
    (omega (arith, length_bits bytes start (m + n), length_bits bytes start m, length_bits bytes (start + m) n, length-append (bits_of bytes start m) (bits_of bytes (start + m) n)))
    (λ i within. at i (omega (arith, length_bits bytes start (m + n))) (cases_lt i m))
  where
    at : (i : ℕ) → i < m + n → (i < m) ⊎ (m ≤ i)
        → get_or (bits_of bytes start (m + n)) i false ≡ get_or (bits_of bytes start m ++ bits_of bytes (start + m) n) i false
    at i within (inl below) =
        get_bits bytes start (m + n) i false within ∙ sym (get_bits bytes start m i false below)
        ∙ sym (get_or_append_left (bits_of bytes start m) (bits_of bytes (start + m) n) false i (omega (arith, length_bits bytes start m)))
    at i within (inr behind) =
        let place : start + i ≡ start + m + (i - m) = omega arith in
        let length_is = length_bits bytes start m in
        get_bits bytes start (m + n) i false within ∙ ap (bit_of bytes) place
        ∙ sym (get_bits bytes (start + m) n (i - m) false (omega arith))
        ∙ ap (λ k. get_or (bits_of bytes (start + m) n) (i - k) false) (sym length_is)
        ∙ sym (get_or-append_right (bits_of bytes start m) (bits_of bytes (start + m) n) i false (omega (arith, length_is)))

pub zeros_runs : (bytes : List ℕ) (start m n : ℕ) → zeros (bits_of bytes start (m + n)) ≡ zeros (bits_of bytes start m) + zeros (bits_of bytes (start + m) n)
zeros_runs bytes start m n = ap zeros (runs bytes start m n) ∙ zeros_append (bits_of bytes start m) (bits_of bytes (start + m) n)

-- What a byte of masked bits tells: which of the run are set.
pub run_bits : (bytes : List ℕ) (start run eight byte : ℕ) → run ≤ 8
    → ((i : ℕ) → i < 8 → (bit_at eight i == 1) ≡ bit_of bytes (start + i))
    → ((i : ℕ) → bit_at byte i ≡ (if nat_lt i run then bit_at eight i else 0))
    → (i : ℕ) → i < run → bit_of bytes (start + i) ≡ (bit_at byte i == 1)
run_bits bytes start run eight byte few eight_are byte_are i within =
    sym (eight_are i (omega arith))
    ∙ ap (λ d. d == 1) (sym (byte_are i ∙ ap (λ test. if test then bit_at eight i else 0) (lt-ltb i run within)))

pub counted : (bytes : List ℕ) (start run byte : ℕ) → byte < 2 ^ run
    → ((i : ℕ) → i < run → bit_of bytes (start + i) ≡ (bit_at byte i == 1))
    → (zeros (bits_of bytes start run) ≡ run - ones byte) × (ones byte ≤ run)
counted bytes start run byte small are =
    let low = zeros_low bytes start run byte are in
    let all = low_ones run byte small in
    (omega (arith, low, all), omega (arith, all))

pub zeros_few : (bytes : List ℕ) (start count : ℕ) → zeros (bits_of bytes start count) ≤ count
zeros_few bytes start count = omega (arith, count_by-le-length not (bits_of bytes start count), length_bits bytes start count)
