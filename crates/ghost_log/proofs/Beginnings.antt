-- Beginnings of one list.
use Rattle.std.proofs.Common.{◌≡◌, ◌⊎◌, inl, inr, ◌≤◌, List, [], ◌∷◌, length, refl, arith}
use mathlib.Core.List.{IsPrefix}

both_begin : {A : Type 0} (x y : A) (xs ys : List A) → x ≡ y → IsPrefix xs ys ⊎ IsPrefix ys xs → IsPrefix (x ∷ xs) (y ∷ ys) ⊎ IsPrefix (y ∷ ys) (x ∷ xs)
both_begin x y xs ys heads (inl (more, is)) = inl (more, cc (heads, is))
both_begin x y xs ys heads (inr (more, is)) = inr (more, cc (heads, is))

-- of two beginnings of one list one begins the other
pub one_begins_the_other : {A : Type 0} (xs ys zs : List A) → IsPrefix xs zs → IsPrefix ys zs → IsPrefix xs ys ⊎ IsPrefix ys xs
one_begins_the_other [] ys zs p q = inl (ys, refl)
one_begins_the_other (x ∷ xs) [] zs p q = inr (x ∷ xs, refl)
one_begins_the_other (x ∷ xs) (y ∷ ys) [] p q = absurd (cc (p.1))
one_begins_the_other (x ∷ xs) (y ∷ ys) (z ∷ zs) p q =
    both_begin x y xs ys (cc (p.1, q.1)) (one_begins_the_other xs ys zs (p.0, cc (p.1)) (q.0, cc (q.1)))

-- a beginning as long as the whole is the whole
pub prefix_whole : {A : Type 0} (xs ys : List A) → IsPrefix xs ys → length ys ≤ length xs → xs ≡ ys
prefix_whole [] [] p le = refl
prefix_whole [] (y ∷ ys) p le = absurd (omega arith)
prefix_whole (x ∷ xs) [] p le = absurd (cc (p.1))
prefix_whole (x ∷ xs) (y ∷ ys) p le =
    let rest = prefix_whole xs ys (p.0, cc (p.1)) (omega arith) in cc (p.1, rest)
