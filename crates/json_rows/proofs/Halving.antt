-- Numbers that are below a limit by a power of two: one that is not below is even, and its half is such a number too.
use Rattle.std.proofs.Common.{◌≡◌, ℕ, zero, suc, ◌*◌, ◌^◌, ◌<◌, ◌≤◌, ◌+◌, refl, sym, ap, subst, ◌∙◌, arith, ◌↔◌}
use Rattle.std.proofs.Math.Nat.{mul_left_comm, pow-succ', mul-one}
use Rattle.json_rows.specs.Numbers.{IsExactBelow}

-- with one power of two more it is twice as much
twice : (digits exponent : ℕ) → digits * 2 ^ suc exponent ≡ 2 * (digits * 2 ^ exponent)
twice digits exponent = ap (λ (n : ℕ). digits * n) (pow-succ' 2 exponent) ∙ mul_left_comm digits 2 (2 ^ exponent)

-- what is not below the limit is twice another such number
halved : (limit number digits exponent : ℕ) → limit ≤ number → digits < limit → number ≡ digits * 2 ^ exponent
    → (half : ℕ) × (number ≡ 2 * half) × IsExactBelow limit half
halved limit number digits zero le lt is = absurd (let same : number ≡ digits = is ∙ mul-one digits in omega (arith, le, lt, same))
halved limit number digits (suc exponent) le lt is = (digits * 2 ^ exponent, is ∙ twice digits exponent, (digits, exponent, lt, refl))

pub below_is : (limit number : ℕ) → number < limit → IsExactBelow limit number
below_is limit number lt = (number, 0, lt, sym (mul-one number))

pub doubled_is : (limit number : ℕ) → IsExactBelow limit number → IsExactBelow limit (2 * number)
doubled_is limit number (digits, exponent, lt, is) = (digits, suc exponent, lt, ap (λ (n : ℕ). 2 * n) is ∙ sym (twice digits exponent))

pub even_is : (limit half : ℕ) → limit ≤ 2 * half → (IsExactBelow limit (2 * half) ↔ IsExactBelow limit half)
even_is limit half le = (
  λ (digits, exponent, lt, is).
      let it = halved limit (2 * half) digits exponent le lt is in
      let same : it.0 ≡ half = (let twice : 2 * half ≡ 2 * it.0 = it.1 in omega (arith, twice)) in
      subst (IsExactBelow limit) same it.2,
  λ is. doubled_is limit half is,
)

pub odd_is_not : (limit half : ℕ) → limit ≤ 2 * half + 1 → IsExactBelow limit (2 * half + 1) → ⊥
odd_is_not limit half le (digits, exponent, lt, is) =
    let it = halved limit (2 * half + 1) digits exponent le lt is in
    let twice = it.1 in
    omega (arith, twice)
