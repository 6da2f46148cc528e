-- Two lists whose items belong together, one by one.
use Rattle.std.proofs.Common.{◌≡◌, ℕ, ◌+◌, ◌<◌, List, [], ◌∷◌, ◌++◌, map, take, length, get_or, refl, sym, ap, subst, ◌∙◌, arith}
use Rattle.std.specs.List.{AllByRecursion, AllZip}
use Rattle.std.proofs.lemmas.List.{map_more}

module _ {A B : Type 0} (R : A → B → Type 0) where
  pub zip_push : (xs : List A) (ys : List B) (x : A) (y : B) → AllZip R xs ys → R x y → AllZip R (xs ++ x ∷ []) (ys ++ y ∷ [])
  zip_push [] [] x y h r = (r, tt)
  zip_push [] (b ∷ ys) x y h r = absurd h
  zip_push (a ∷ xs) [] x y h r = absurd h
  zip_push (a ∷ xs) (b ∷ ys) x y h r = (h.0, zip_push xs ys x y h.1 r)

-- one item more, of those that are seen as values
module _ {A B C : Type 0} (R : B → C → Type 0) (see : A → B) where
  pub zip_more : (xs : List A) (i : ℕ) (x : A) (ys : List C) (y : C) → i < length xs → x ≡ get_or xs i x
      → AllZip R (map see (take i xs)) ys → R (see x) y → AllZip R (map see (take (i + 1) xs)) (ys ++ y ∷ [])
  zip_more xs i x ys y lt is h r =
      let more : map see (take (i + 1) xs) ≡ map see (take i xs) ++ see x ∷ []
      = map_more see xs i x lt ∙ ap (λ (v : A). map see (take i xs) ++ see v ∷ []) (sym is) in
      subst (λ (bs : List B). AllZip R bs (ys ++ y ∷ [])) (sym more) (zip_push R (map see (take i xs)) ys (see x) y h r)

module _ {A : Type 0} (P : A → Type 0) where
  pub all_push : (xs : List A) (x : A) → AllByRecursion P xs → P x → AllByRecursion P (xs ++ x ∷ [])
  all_push [] x all p = (p, tt)
  all_push (y ∷ xs) x all p = (all.0, all_push xs x all.1 p)

module _ {A B : Type 0} (f : A → B) where
  pub mapped_push : (xs : List A) (x : A) → map f (xs ++ x ∷ []) ≡ map f xs ++ f x ∷ []
  mapped_push [] x = refl
  mapped_push (y ∷ xs) x = ap (λ (l : List B). f y ∷ l) (mapped_push xs x)

-- ---- short lists

pub is_empty_list : {A : Type 0} (xs : List A) → length xs < 1 → xs ≡ []
is_empty_list [] lt = refl
is_empty_list (x ∷ xs) lt = let no : ⊥ = omega arith in absurd no

pub is_one_list : {A : Type 0} (xs : List A) (x : A) → length xs ≡ 1 → x ≡ get_or xs 0 x → xs ≡ x ∷ []
is_one_list [] x len a = let no : ⊥ = omega arith in absurd no
is_one_list (v ∷ []) x len a = cc
is_one_list (v ∷ w ∷ xs) x len a = let no : ⊥ = omega arith in absurd no

pub is_two_list : {A : Type 0} (xs : List A) (x y : A) → length xs ≡ 2 → x ≡ get_or xs 0 x → y ≡ get_or xs 1 y → xs ≡ x ∷ y ∷ []
is_two_list [] x y len a b = let no : ⊥ = omega arith in absurd no
is_two_list (v ∷ []) x y len a b = let no : ⊥ = omega arith in absurd no
is_two_list (v ∷ w ∷ []) x y len a b = cc
is_two_list (v ∷ w ∷ u ∷ xs) x y len a b = let no : ⊥ = omega arith in absurd no
