-- A float of four bytes, rounded to four bytes, stays what it is.
use Rattle.std.proofs.Common.{◌≡◌, refl, sym, ap, ◌∙◌, subst, ℕ, zero, suc, ◌+◌, ◌-◌, ◌*◌, ◌%◌, ◌^◌, ◌≤◌, ◌<◌, ℤ, pos, negsuc, Bool, true, arith}
use Rattle.std.specs.Prelude.{Float, T, ◌&&◌, nat_lt, nat_le, ◌==◌}
use Rattle.std.specs.Float.{Format, float_is_finite, round_to_format}
use Rattle.std.proofs.Math.Nat.{mul-one, one-mul, zero-mul, mul_assoc, mul_comm, mul_right_comm, mul_left_comm, eq_of_mul-eq-mul_right, mul-pos, mul-lt-mul_of_pos_right, zero-lt-suc, lt_irrefl, pow-succ', pow-suc}
use lib.Dec.{ltb→lt, leb→le, eqb→eq}
use lib.Pow.{pow-add, pow_pos}
use lib.Ieee.{nan, inf, fin, prec, emax, low, up, down, round, fits}
use lib.Ieee.Fits.{and_l, and_r, up_pos, down_pos, round-fits}
use lib.Ieee.Exact.{HasValue, round_exact}

-- ---- a float that fits has one spelling

odd_pow : (m n a b : ℕ) → m % 2 ≡ 1 → n % 2 ≡ 1 → m * 2 ^ a ≡ n * 2 ^ b → (m ≡ n) × (a ≡ b)
odd_pow m n zero zero o p h = (sym (mul-one m) ∙ h ∙ mul-one n, refl)
odd_pow m n zero (suc b) o p h =
    let e : m ≡ 2 * (n * 2 ^ b) = sym (mul-one m) ∙ h ∙ ap (λ (x : ℕ). n * x) (pow-succ' 2 b) ∙ mul_left_comm n 2 (2 ^ b) in let no : ⊥ = omega (arith, o, e) in absurd no
odd_pow m n (suc a) zero o p h =
    let e : n ≡ 2 * (m * 2 ^ a) = sym (mul-one n) ∙ sym h ∙ ap (λ (x : ℕ). m * x) (pow-succ' 2 a) ∙ mul_left_comm m 2 (2 ^ a) in let no : ⊥ = omega (arith, p, e) in absurd no
odd_pow m n (suc a) (suc b) o p h =
    let r = odd_pow m n a b o p (eq_of_mul-eq-mul_right 2 (zero-lt-suc 1) (m * 2 ^ a) (n * 2 ^ b)
    (mul_assoc m (2 ^ a) 2 ∙ ap (λ (x : ℕ). m * x) (sym (pow-suc 2 a)) ∙ h ∙ ap (λ (x : ℕ). n * x) (pow-suc 2 b) ∙ sym (mul_assoc n (2 ^ b) 2))) in
    (r.0, ap suc r.1)

record Parts (f : Format) (m : ℕ) (e : ℤ) : Type 0 where
  odd : m % 2 ≡ 1
  small : m < 2 ^ prec f
  fine : down e ≤ 2 ^ low f
  below : m * up e < 2 ^ suc (emax f) * down e

parts : (f : Format) (s : Bool) (m : ℕ) (e : ℤ) → T (fits f (fin s (suc m) e)) → Parts f (suc m) e
unfolding fits
parts f s m e t =
    let a = suc m % 2 == 1 in
    let b = nat_lt (suc m) (2 ^ prec f) in
    let c = nat_le (down e) (2 ^ low f) in
    let d = nat_lt (suc m * up e) (2 ^ suc (emax f) * down e) in
    record {
      odd = eqb→eq (suc m % 2) 1 (and_l a b (and_l (a && b) c (and_l (a && b && c) d t)));
      small = ltb→lt (suc m) (2 ^ prec f) (and_r a b (and_l (a && b) c (and_l (a && b && c) d t)));
      fine = leb→le (down e) (2 ^ low f) (and_r (a && b) c (and_l (a && b && c) d t));
      below = ltb→lt (suc m * up e) (2 ^ suc (emax f) * down e) (and_r (a && b && c) d t);
    }

even_is_not_one : (p : ℕ) → 2 * p ≡ 1 → ⊥
even_is_not_one p h = omega (arith, h)

flat : (e : ℤ) → up e * down e ≡ 1 → e ≡ pos 0
flat (pos zero) h = refl
flat (pos (suc k)) h = absurd (even_is_not_one (2 ^ k) (sym (pow-succ' 2 k) ∙ sym (mul-one (2 ^ suc k)) ∙ h))
flat (negsuc k) h = absurd (even_is_not_one (2 ^ k) (sym (pow-succ' 2 k) ∙ sym (one-mul (2 ^ suc k)) ∙ h))

zero_exponent : (f : Format) (s : Bool) (e : ℤ) → T (fits f (fin s zero e)) → e ≡ pos 0
unfolding fits
zero_exponent f s e t = flat e (eqb→eq (up e * down e) 1 t)

not_zero : (m u d : ℕ) → 0 < u → 0 < d → suc m * u * d ≡ 0 → ⊥
not_zero m u d up_above down_above h = lt_irrefl 0 (subst (λ (x : ℕ). 0 < x) h (mul-pos (mul-pos (zero-lt-suc m) up_above) down_above))

cross : (m n u v c a d g : ℕ) → 0 < c → m * u * c ≡ a * d → n * v * c ≡ a * g → m * u * g ≡ n * v * d
cross m n u v c a d g c_above p q =
    eq_of_mul-eq-mul_right c c_above (m * u * g) (n * v * d)
    (mul_right_comm (m * u) g c ∙ ap (λ (x : ℕ). x * g) p ∙ mul_right_comm a d g ∙ ap (λ (x : ℕ). x * d) (sym q) ∙ mul_right_comm (n * v) c d)

exponents : (m n : ℕ) (e g : ℤ) → m % 2 ≡ 1 → n % 2 ≡ 1 → m * up e * down g ≡ n * up g * down e → (m ≡ n) × (e ≡ g)
exponents m n (pos a) (pos b) o p h =
    let r = odd_pow m n a b o p (sym (mul-one (m * 2 ^ a)) ∙ h ∙ mul-one (n * 2 ^ b)) in (r.0, ap pos r.1)
exponents m n (pos a) (negsuc b) o p h =
    let r = odd_pow m n (a + suc b) 0 o p (ap (λ (x : ℕ). m * x) (pow-add 2 a (suc b)) ∙ sym (mul_assoc m (2 ^ a) (2 ^ suc b)) ∙ h ∙ mul-one (n * 1)) in
    let no : ⊥ = omega (arith, r.1) in absurd no
exponents m n (negsuc a) (pos b) o p h =
    let r = odd_pow n m (b + suc a) 0 p o (ap (λ (x : ℕ). n * x) (pow-add 2 b (suc a)) ∙ sym (mul_assoc n (2 ^ b) (2 ^ suc a)) ∙ sym h ∙ mul-one (m * 1)) in
    let no : ⊥ = omega (arith, r.1) in absurd no
exponents m n (negsuc a) (negsuc b) o p h =
    let r = odd_pow m n (suc b) (suc a) o p (ap (λ (x : ℕ). x * 2 ^ suc b) (sym (mul-one m)) ∙ h ∙ ap (λ (x : ℕ). x * 2 ^ suc a) (mul-one n)) in
    let same : a ≡ b = omega (arith, r.1) in (r.0, ap negsuc same)

one_spelling : (f : Format) (x y : Float) (s : Bool) (a c : ℕ) → 0 < c → T (fits f x) → T (fits f y) → HasValue x s a c → HasValue y s a c → x ≡ y
one_spelling f nan y s a c above p q v w = absurd v
one_spelling f (inf t) y s a c above p q v w = absurd v
one_spelling f (fin t m e) nan s a c above p q v w = absurd w
one_spelling f (fin t m e) (inf u) s a c above p q v w = absurd w
one_spelling f (fin t zero e) (fin u zero g) s a c above p q v w =
    ap (λ (b : Bool). fin b zero e) (v.0 ∙ sym w.0) ∙ ap (fin u zero) (zero_exponent f t e p ∙ sym (zero_exponent f u g q))
one_spelling f (fin t zero e) (fin u (suc n) g) s a c above p q v w =
    let both = cross zero (suc n) (up e) (up g) c a (down e) (down g) above v.1 w.1 in
    absurd (not_zero n (up g) (down e) (up_pos g) (down_pos e) (sym both ∙ ap (λ (x : ℕ). x * down g) (zero-mul (up e)) ∙ zero-mul (down g)))
one_spelling f (fin t (suc m) e) (fin u zero g) s a c above p q v w =
    let both = cross (suc m) zero (up e) (up g) c a (down e) (down g) above v.1 w.1 in
    absurd (not_zero m (up e) (down g) (up_pos e) (down_pos g) (both ∙ ap (λ (x : ℕ). x * down e) (zero-mul (up g)) ∙ zero-mul (down e)))
one_spelling f (fin t (suc m) e) (fin u (suc n) g) s a c above p q v w =
    let r = exponents (suc m) (suc n) e g (parts f t m e p).odd (parts f u n g q).odd (cross (suc m) (suc n) (up e) (up g) c a (down e) (down g) above v.1 w.1) in
    ap (λ (b : Bool). fin b (suc m) e) (v.0 ∙ sym w.0) ∙ ap (λ (k : ℕ). fin u k e) r.0 ∙ ap (fin u (suc n)) r.1

-- ---- rounding keeps it

own : (s : Bool) (m : ℕ) (e : ℤ) → HasValue (fin s m e) s (m * up e) (down e)
own s m e = (refl, refl)

powers_rise : (i j : ℕ) → 2 ^ i ≤ 2 ^ j → i ≤ j
powers_rise zero j h = omega arith
powers_rise (suc i) zero h = let no : ⊥ = omega (arith, h, pow-succ' 2 i, pow_pos i) in absurd no
powers_rise (suc i) (suc j) h =
    let less : 2 ^ i ≤ 2 ^ j = omega (arith, h, pow-succ' 2 i, pow-succ' 2 j) in omega (arith, powers_rise i j less)

rounded_zero : (f : Format) (s : Bool) (e : ℤ) → HasValue (round f s (zero * up e) (down e)) s (zero * up e) (down e)
rounded_zero f s e =
    round_exact f s (zero * up e) (down e) zero zero (down_pos e) (pow_pos (prec f)) (pow_pos (low f + suc (emax f)))
    (ap (λ (x : ℕ). x * 2 ^ low f) (zero-mul (up e)) ∙ zero-mul (2 ^ low f) ∙ sym (zero-mul (down e)))

rounded : (f : Format) (s : Bool) (m : ℕ) (e : ℤ) → Parts f m e → HasValue (round f s (m * up e) (down e)) s (m * up e) (down e)
rounded f s m (pos a) p =
    let split : m * 2 ^ (a + low f) ≡ m * 2 ^ a * 2 ^ low f = ap (λ (x : ℕ). m * x) (pow-add 2 a (low f)) ∙ sym (mul_assoc m (2 ^ a) (2 ^ low f)) in
    let bound : 2 ^ suc (emax f) * 1 * 2 ^ low f ≡ 2 ^ (low f + suc (emax f)) =
    ap (λ (x : ℕ). x * 2 ^ low f) (mul-one (2 ^ suc (emax f))) ∙ mul_comm (2 ^ suc (emax f)) (2 ^ low f) ∙ sym (pow-add 2 (low f) (suc (emax f))) in
    round_exact f s (m * 2 ^ a) 1 m (a + low f) (zero-lt-suc 0) p.small
    (subst (λ (x : ℕ). x < 2 ^ (low f + suc (emax f))) (sym split)
    (subst (λ (x : ℕ). m * 2 ^ a * 2 ^ low f < x) bound (mul-lt-mul_of_pos_right p.below (pow_pos (low f)))))
    (sym split ∙ sym (mul-one (m * 2 ^ (a + low f))))
rounded f s m (negsuc a) p =
    let within : suc a ≤ low f = powers_rise (suc a) (low f) p.fine in
    let j = low f - suc a in
    let whole : low f ≡ j + suc a = omega (arith, within) in
    let split : 2 ^ low f ≡ 2 ^ j * 2 ^ suc a = ap (λ (x : ℕ). 2 ^ x) whole ∙ pow-add 2 j (suc a) in
    let bound : 2 ^ suc (emax f) * 2 ^ suc a * 2 ^ j ≡ 2 ^ (low f + suc (emax f)) =
    mul_assoc (2 ^ suc (emax f)) (2 ^ suc a) (2 ^ j) ∙ ap (λ (x : ℕ). 2 ^ suc (emax f) * x) (mul_comm (2 ^ suc a) (2 ^ j) ∙ sym split)
    ∙ mul_comm (2 ^ suc (emax f)) (2 ^ low f) ∙ sym (pow-add 2 (low f) (suc (emax f))) in
    round_exact f s (m * 1) (2 ^ suc a) m j (pow_pos (suc a)) p.small
    (subst (λ (x : ℕ). m * 2 ^ j < x) bound
    (subst (λ (x : ℕ). x * 2 ^ j < 2 ^ suc (emax f) * 2 ^ suc a * 2 ^ j) (mul-one m) (mul-lt-mul_of_pos_right p.below (pow_pos j))))
    (ap (λ (x : ℕ). x * 2 ^ low f) (mul-one m) ∙ ap (λ (x : ℕ). m * x) split ∙ sym (mul_assoc m (2 ^ j) (2 ^ suc a)))

pub rounded_stays : (f : Format) (x : Float) → T (fits f x) → float_is_finite x ≡ true → round_to_format f x ≡ x
unfolding round_to_format float_is_finite
rounded_stays f nan held finite = refl
rounded_stays f (inf s) held finite = refl
rounded_stays f (fin s zero e) held finite =
    one_spelling f (round f s (zero * up e) (down e)) (fin s zero e) s (zero * up e) (down e) (down_pos e) (round-fits f s (zero * up e) (down e)) held
    (rounded_zero f s e) (own s zero e)
rounded_stays f (fin s (suc m) e) held finite =
    one_spelling f (round f s (suc m * up e) (down e)) (fin s (suc m) e) s (suc m * up e) (down e) (down_pos e) (round-fits f s (suc m * up e) (down e)) held
    (rounded f s (suc m) e (parts f s m e held)) (own s (suc m) e)
