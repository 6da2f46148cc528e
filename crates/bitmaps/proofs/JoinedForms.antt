-- What lists of bits that are joined are, bit by bit.
use Rattle.std.proofs.Common.{◌≡◌, ◌≢◌, ◌↔◌, refl, sym, ap, ◌∙◌, ℕ, zero, suc, Bool, true, false, not, ◌&&◌, if◌then◌else◌, arith, List, [], ◌∷◌, get_or, length, true≢false}
use Rattle.bitmaps.specs.Joined.{set_in_both, set_in_one}

both_at : (xs ys : List Bool) (j : ℕ) → length xs ≡ length ys → get_or (set_in_both xs ys) j false ≡ (get_or xs j false && get_or ys j false)
both_at [] [] j same = refl
both_at [] (y ∷ ys) j same = absurd (omega arith)
both_at (x ∷ xs) [] j same = absurd (omega arith)
both_at (x ∷ xs) (y ∷ ys) zero same = refl
both_at (x ∷ xs) (y ∷ ys) (suc j) same = both_at xs ys j (omega arith)

one_at : (xs ys : List Bool) (j : ℕ) → length xs ≡ length ys
    → get_or (set_in_one xs ys) j false ≡ (if get_or xs j false then not (get_or ys j false) else get_or ys j false)
one_at [] [] j same = refl
one_at [] (y ∷ ys) j same = absurd (omega arith)
one_at (x ∷ xs) [] j same = absurd (omega arith)
one_at (x ∷ xs) (y ∷ ys) zero same = refl
one_at (x ∷ xs) (y ∷ ys) (suc j) same = one_at xs ys j (omega arith)

both_true : (a b c : Bool) → c ≡ (a && b) → (c ≡ true) ↔ ((a ≡ true) × (b ≡ true))
both_true true b c is = (λ set. (refl, sym is ∙ set), λ each. is ∙ each.1)
both_true false b c is = (λ set. absurd (true≢false (sym set ∙ is)), λ each. absurd (true≢false (sym each.0)))

one_true : (a b c : Bool) → c ≡ (if a then not b else b) → (c ≡ true) ↔ (a ≢ b)
one_true true true c is = (λ set. absurd (true≢false (sym set ∙ is)), λ other. absurd (other refl))
one_true true false c is = (λ set. true≢false, λ other. is)
one_true false true c is = (λ set same. true≢false (sym same), λ other. is)
one_true false false c is = (λ set. absurd (true≢false (sym set ∙ is)), λ other. absurd (other refl))

pub both_set : (xs ys : List Bool) (j : ℕ) → length xs ≡ length ys
    → (get_or (set_in_both xs ys) j false ≡ true) ↔ ((get_or xs j false ≡ true) × (get_or ys j false ≡ true))
both_set xs ys j same = both_true (get_or xs j false) (get_or ys j false) (get_or (set_in_both xs ys) j false) (both_at xs ys j same)

pub one_set : (xs ys : List Bool) (j : ℕ) → length xs ≡ length ys
    → (get_or (set_in_one xs ys) j false ≡ true) ↔ (get_or xs j false ≢ get_or ys j false)
one_set xs ys j same = one_true (get_or xs j false) (get_or ys j false) (get_or (set_in_one xs ys) j false) (one_at xs ys j same)

pub both_long : (xs ys : List Bool) → length xs ≡ length ys → length (set_in_both xs ys) ≡ length xs
both_long [] [] same = refl
both_long [] (y ∷ ys) same = absurd (omega arith)
both_long (x ∷ xs) [] same = absurd (omega arith)
both_long (x ∷ xs) (y ∷ ys) same = ap suc (both_long xs ys (omega arith))

pub one_long : (xs ys : List Bool) → length xs ≡ length ys → length (set_in_one xs ys) ≡ length xs
one_long [] [] same = refl
one_long [] (y ∷ ys) same = absurd (omega arith)
one_long (x ∷ xs) [] same = absurd (omega arith)
one_long (x ∷ xs) (y ∷ ys) same = ap suc (one_long xs ys (omega arith))
