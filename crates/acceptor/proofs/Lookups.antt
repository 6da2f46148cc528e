-- Look-ups by slot, and a list read one element further.
use Rattle.std.proofs.Common.{◌≡◌, ◌≢◌, ℕ, suc, ◌+◌, ◌<◌, nat_eq, true, false, List, [], ◌∷◌, ◌++◌, length, take, get_or, sym, ap, subst, ◌∙◌, inl, inr, arith}
use Rattle.std.proofs.Math.Seq.{take-suc}
use Rattle.std.proofs.lemmas.Bool.Decides.{eqb_tells}

-- the test by which another slot is found doesn't pass
pub apart_is_false : (slot other : ℕ) → other ≢ slot → nat_eq slot other ≡ false
apart_is_false slot other apart = elim (eqb_tells slot other) [ inl same ↦ absurd (apart (sym same.1)) | inr differs ↦ differs.0 ]

pub one_further : {A : Type 0} (P : List A → Type 0) (xs : List A) (i : ℕ) (x : A) → i < length xs → x ≡ get_or xs i x
    → P (take i xs ++ x ∷ []) → P (take (i + 1) xs)
one_further {A} P xs i x within is p =
    let next : i + 1 ≡ suc i = omega arith in
    subst P (sym (ap (λ (n : ℕ). take n xs) next ∙ take-suc xs i x within ∙ ap (λ (y : A). take i xs ++ y ∷ []) (sym is))) p
