-- Values read one after the other.
use Rattle.std.proofs.Common.{◌≡◌, ℕ, zero, suc, ◌+◌, ◌<◌, List, [], ◌∷◌, ◌++◌, map, take, length, get_or, refl, sym, ap, subst, ◌∙◌, arith}
use Rattle.std.specs.List.{AllZip}
use Rattle.std.proofs.lemmas.List.{map_more}
use Rattle.serde_json.specs.Data.{Data, Items, no_items, item}
use Rattle.serde_json.specs.View.{items_of}

-- ---- the items of an array, as a list

abbrev listed : Items → List Data
listed no_items = []
listed (item d ds) = d ∷ listed ds

listed_again : (ds : List Data) → listed (items_of ds) ≡ ds
listed_again [] = refl
listed_again (d ∷ ds) = ap (λ (l : List Data). d ∷ l) (listed_again ds)

pub items_are_one : (ds es : List Data) → items_of ds ≡ items_of es → ds ≡ es
items_are_one ds es same = sym (listed_again ds) ∙ ap listed same ∙ listed_again es

-- ---- two lists whose items belong together

module _ {A B : Type 0} (R : A → B → Type 0) where
  -- where each item belongs to one alone, so does the list
  pub zipped_are_one : ((x : A) (y z : B) → R x y → R x z → y ≡ z) → (xs : List A) (ys zs : List B) → AllZip R xs ys → AllZip R xs zs → ys ≡ zs
  zipped_are_one one [] [] [] a b = refl
  zipped_are_one one [] (y ∷ ys) zs a b = absurd a
  zipped_are_one one [] [] (z ∷ zs) a b = absurd b
  zipped_are_one one (x ∷ xs) [] zs a b = absurd a
  zipped_are_one one (x ∷ xs) (y ∷ ys) [] a b = absurd b
  zipped_are_one one (x ∷ xs) (y ∷ ys) (z ∷ zs) a b =
      ap (λ (v : B). v ∷ ys) (one x y z a.0 b.0) ∙ ap (λ (l : List B). z ∷ l) (zipped_are_one one xs ys zs a.1 b.1)

  zip_push : (xs : List A) (ys : List B) (x : A) (y : B) → AllZip R xs ys → R x y → AllZip R (xs ++ x ∷ []) (ys ++ y ∷ [])
  zip_push [] [] x y h r = (r, tt)
  zip_push [] (b ∷ ys) x y h r = absurd h
  zip_push (a ∷ xs) [] x y h r = absurd h
  zip_push (a ∷ xs) (b ∷ ys) x y h r = (h.0, zip_push xs ys x y h.1 r)

module _ {A B C : Type 0} (R : B → C → Type 0) (see : A → B) where
  -- one item more, of those that are seen as values
  pub zip_more : (xs : List A) (i : ℕ) (x : A) (ys : List C) (y : C) → i < length xs → x ≡ get_or xs i x
      → AllZip R (map see (take i xs)) ys → R (see x) y → AllZip R (map see (take (i + 1) xs)) (ys ++ y ∷ [])
  zip_more xs i x ys y lt is h r =
      let more : map see (take (i + 1) xs) ≡ map see (take i xs) ++ see x ∷ []
      = map_more see xs i x lt ∙ ap (λ (v : A). map see (take i xs) ++ see v ∷ []) (sym is) in
      subst (λ (bs : List B). AllZip R bs (ys ++ y ∷ [])) (sym more) (zip_push R (map see (take i xs)) ys (see x) y h r)

  -- what belongs to one of them
  pub zipped_at : (xs : List A) (ys : List C) (i : ℕ) (x : A) → AllZip R (map see xs) ys → i < length xs → x ≡ get_or xs i x → (y : C) × R (see x) y
  zipped_at [] ys i x all lt is = let no : ⊥ = omega arith in absurd no
  zipped_at (v ∷ xs) [] i x all lt is = absurd all
  zipped_at (v ∷ xs) (y ∷ ys) zero x all lt is = (y, subst (λ (a : A). R (see a) y) (sym is) all.0)
  zipped_at (v ∷ xs) (y ∷ ys) (suc i) x all lt is = zipped_at xs ys i x all.1 (omega arith) is
