-- Two lists whose items belong together, one by one, and results that are handed on.
use Rattle.std.proofs.Common.{◌≡◌, ℕ, zero, suc, ◌+◌, ◌<◌, List, [], ◌∷◌, ◌++◌, map, take, length, get_or, Result, Ok, Err, IsErrAnd, IfErr, OnErr, refl, sym, ap, subst, ◌∙◌, arith}
use Rattle.std.specs.List.{AllZip}
use Rattle.std.proofs.lemmas.List.{map_more}
use Rattle.std.proofs.lemmas.Result.{err_from_is_err_and}
use Rattle.serde_json.specs.Data.{Data, Items, no_items, item}
use Rattle.serde_json.specs.View.{items_of}

-- ---- the items of an array, as a list

abbrev listed : Items → List Data
listed no_items = []
listed (item d ds) = d ∷ listed ds

listed_again : (ds : List Data) → listed (items_of ds) ≡ ds
listed_again [] = refl
listed_again (d ∷ ds) = ap (λ (l : List Data). d ∷ l) (listed_again ds)

pub items_are_one : (ds es : List Data) → items_of ds ≡ items_of es → ds ≡ es
items_are_one ds es same = sym (listed_again ds) ∙ ap listed same ∙ listed_again es

-- ---- two lists whose items belong together

module _ {A B : Type 0} (R : A → B → Type 0) where
  -- where each item belongs to one alone, so does the list
  pub zipped_are_one : ((x : A) (y z : B) → R x y → R x z → y ≡ z) → (xs : List A) (ys zs : List B) → AllZip R xs ys → AllZip R xs zs → ys ≡ zs
  zipped_are_one one [] [] [] a b = refl
  zipped_are_one one [] (y ∷ ys) zs a b = absurd a
  zipped_are_one one [] [] (z ∷ zs) a b = absurd b
  zipped_are_one one (x ∷ xs) [] zs a b = absurd a
  zipped_are_one one (x ∷ xs) (y ∷ ys) [] a b = absurd b
  zipped_are_one one (x ∷ xs) (y ∷ ys) (z ∷ zs) a b =
      ap (λ (v : B). v ∷ ys) (one x y z a.0 b.0) ∙ ap (λ (l : List B). z ∷ l) (zipped_are_one one xs ys zs a.1 b.1)

-- what belongs to one of the items, which are seen as values
module _ {A B C : Type 0} (R : B → C → Type 0) (see : A → B) where
  pub zipped_at : (xs : List A) (ys : List C) (i : ℕ) (x : A) → AllZip R (map see xs) ys → i < length xs → x ≡ get_or xs i x → (y : C) × R (see x) y
  zipped_at [] ys i x all lt is = let no : ⊥ = omega arith in absurd no
  zipped_at (v ∷ xs) [] i x all lt is = absurd all
  zipped_at (v ∷ xs) (y ∷ ys) zero x all lt is = (y, subst (λ (a : A). R (see a) y) (sym is) all.0)
  zipped_at (v ∷ xs) (y ∷ ys) (suc i) x all lt is = zipped_at xs ys i x all.1 (omega arith) is

module _ {A B : Type 0} (R : A → B → Type 0) where
  pub zip_push : (xs : List A) (ys : List B) (x : A) (y : B) → AllZip R xs ys → R x y → AllZip R (xs ++ x ∷ []) (ys ++ y ∷ [])
  zip_push [] [] x y h r = (r, tt)
  zip_push [] (b ∷ ys) x y h r = absurd h
  zip_push (a ∷ xs) [] x y h r = absurd h
  zip_push (a ∷ xs) (b ∷ ys) x y h r = (h.0, zip_push xs ys x y h.1 r)

  pub pair_at : (xs : List A) (ys : List B) (i : ℕ) (x : A) (y : B) → AllZip R xs ys → i < length ys → R (get_or xs i x) (get_or ys i y)
  pair_at [] [] i x y all lt = let no : ⊥ = omega arith in absurd no
  pair_at [] (b ∷ ys) i x y all lt = absurd all
  pair_at (a ∷ xs) [] i x y all lt = absurd all
  pair_at (a ∷ xs) (b ∷ ys) zero x y all lt = all.0
  pair_at (a ∷ xs) (b ∷ ys) (suc i) x y all lt = pair_at xs ys i x y all.1 (omega arith)

-- one item more, of those that are seen as values
module _ {A B C : Type 0} (R : B → C → Type 0) (see : A → B) where
  pub zip_more : (xs : List A) (i : ℕ) (x : A) (ys : List C) (y : C) → i < length xs → x ≡ get_or xs i x
      → AllZip R (map see (take i xs)) ys → R (see x) y → AllZip R (map see (take (i + 1) xs)) (ys ++ y ∷ [])
  zip_more xs i x ys y lt is h r =
      let more : map see (take (i + 1) xs) ≡ map see (take i xs) ++ see x ∷ []
      = map_more see xs i x lt ∙ ap (λ (v : A). map see (take i xs) ++ see v ∷ []) (sym is) in
      subst (λ (bs : List B). AllZip R bs (ys ++ y ∷ [])) (sym more) (zip_push R (map see (take i xs)) ys (see x) y h r)

module _ {A B : Type 0} (f : A → B) where
  pub mapped_push : (xs : List A) (x : A) → map f (xs ++ x ∷ []) ≡ map f xs ++ f x ∷ []
  mapped_push [] x = refl
  mapped_push (y ∷ xs) x = ap (λ (l : List B). f y ∷ l) (mapped_push xs x)

-- ---- results that are handed on

-- the fault that `?` hands on
pub handed_on : {T E : Type 0} (r : Result T E) (fault : E) → IsErrAnd r (λ e. e ≡ fault) → r ≡ Err fault
handed_on {T = T} {E = E} r fault h = let p = err_from_is_err_and r h in p.1 ∙ ap (λ (e : E). Err e) p.2

-- is the one that is looked for, where the call's own was
pub told_on : {T E : Type 0} (r : Result T E) (fault own : E) → IsErrAnd r (λ e. e ≡ fault) → fault ≡ own → IfErr r (λ e. e ≡ own)
told_on {T = T} {E = E} r fault own h is = subst (λ (a : Result T E). IfErr a (λ e. e ≡ own)) (sym (handed_on r fault h)) is

-- what is said of the fault that is handed on
pub holds_on : {T E : Type 0} (P : E → Type 0) (r : Result T E) (fault : E) → IsErrAnd r (λ e. e ≡ fault) → P fault → IfErr r P
holds_on {T = T} {E = E} P r fault h is = subst (λ (a : Result T E). IfErr a P) (sym (handed_on r fault h)) is

pub on_err : {T E : Type 0} (P : Type 0) (r : Result T E) → P → OnErr r P
on_err P (Ok x) h = tt
on_err P (Err e) h = h
