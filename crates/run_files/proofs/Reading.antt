-- Values read one after the other, and what two readings of one value have in common.
use Rattle.std.proofs.Common.{◌≡◌, ℕ, zero, suc, ◌<◌, List, [], ◌∷◌, ◌++◌, map, take, length, get_or, Result, Err, IsErrAnd, IfErr, refl, sym, ap, subst, ◌∙◌, arith}
use Rattle.std.specs.List.{AllZip}
use Rattle.std.proofs.lemmas.Result.{err_from_is_err_and}
use Rattle.serde_json.specs.Data.{Data, Items, no_items, item}
use Rattle.serde_json.specs.View.{items_of}
use Rattle.run_files.specs.Flaws.{IsFirstUnfit}

-- ---- the items of an array, as a list

abbrev listed : Items → List Data
listed no_items = []
listed (item d ds) = d ∷ listed ds

listed_again : (ds : List Data) → listed (items_of ds) ≡ ds
listed_again [] = refl
listed_again (d ∷ ds) = ap (λ (l : List Data). d ∷ l) (listed_again ds)

pub items_are_one : (ds es : List Data) → items_of ds ≡ items_of es → ds ≡ es
items_are_one ds es same = sym (listed_again ds) ∙ ap listed same ∙ listed_again es

-- ---- two lists whose items belong together

module _ {A B : Type 0} (R : A → B → Type 0) where
  -- where each item belongs to one alone, so does the list
  pub zipped_are_one : ((x : A) (y z : B) → R x y → R x z → y ≡ z) → (xs : List A) (ys zs : List B) → AllZip R xs ys → AllZip R xs zs → ys ≡ zs
  zipped_are_one one [] [] [] a b = refl
  zipped_are_one one [] (y ∷ ys) zs a b = absurd a
  zipped_are_one one [] [] (z ∷ zs) a b = absurd b
  zipped_are_one one (x ∷ xs) [] zs a b = absurd a
  zipped_are_one one (x ∷ xs) (y ∷ ys) [] a b = absurd b
  zipped_are_one one (x ∷ xs) (y ∷ ys) (z ∷ zs) a b =
      ap (λ (v : B). v ∷ ys) (one x y z a.0 b.0) ∙ ap (λ (l : List B). z ∷ l) (zipped_are_one one xs ys zs a.1 b.1)

  -- where one item belongs to none, no list belongs to theirs
  at_item : (before : List A) (x : A) (after : List A) (ys : List B) → AllZip R (before ++ x ∷ after) ys → (y : B) × R x y
  at_item [] x after [] all = absurd all
  at_item [] x after (y ∷ ys) all = (y, all.0)
  at_item (v ∷ before) x after [] all = absurd all
  at_item (v ∷ before) x after (y ∷ ys) all = at_item before x after ys all.1

  pub unfit_refused : (xs : List A) (place : ℕ) (ys : List B) → IsFirstUnfit R xs place → AllZip R xs ys → ⊥
  unfit_refused xs place ys unfit all =
      let there = at_item unfit.before unfit.item unfit.after ys (subst (λ (l : List A). AllZip R l ys) unfit.parts all) in
      unfit.none there.0 there.1

-- the first of some items that belongs to none, which are seen as values
module _ {A B C : Type 0} (R : B → C → Type 0) (see : A → B) where
  parts_at : (xs : List A) (i : ℕ) (x : A) → i < length xs → x ≡ get_or xs i x → (after : List B) × (map see xs ≡ map see (take i xs) ++ see x ∷ after)
  parts_at [] i x lt is = let no : ⊥ = omega arith in absurd no
  parts_at (v ∷ xs) zero x lt is = (map see xs, ap (λ (a : A). see a ∷ map see xs) (sym is))
  parts_at (v ∷ xs) (suc i) x lt is = let p = parts_at xs i x (omega arith) is in (p.0, ap (λ (l : List B). see v ∷ l) p.1)

  so_many : (xs : List A) (i : ℕ) → i < length xs → length (map see (take i xs)) ≡ i
  so_many [] i lt = let no : ⊥ = omega arith in absurd no
  so_many (v ∷ xs) zero lt = refl
  so_many (v ∷ xs) (suc i) lt = ap suc (so_many xs i (omega arith))

  pub first_unfit : (xs : List A) (i : ℕ) (x : A) (ys : List C) → i < length xs → x ≡ get_or xs i x → AllZip R (map see (take i xs)) ys
      → ((y : C) → R (see x) y → ⊥) → IsFirstUnfit R (map see xs) i
  first_unfit xs i x ys lt is each none =
      let p = parts_at xs i x lt is in
      record {
        before = map see (take i xs);
        item = see x;
        after = p.0;
        parts = p.1;
        place_is = so_many xs i lt;
        told = ys;
        each = each;
        none = none;
      }

-- what belongs to one of the items, which are seen as values
module _ {A B C : Type 0} (R : B → C → Type 0) (see : A → B) where
  pub zipped_at : (xs : List A) (ys : List C) (i : ℕ) (x : A) → AllZip R (map see xs) ys → i < length xs → x ≡ get_or xs i x → (y : C) × R (see x) y
  zipped_at [] ys i x all lt is = let no : ⊥ = omega arith in absurd no
  zipped_at (v ∷ xs) [] i x all lt is = absurd all
  zipped_at (v ∷ xs) (y ∷ ys) zero x all lt is = (y, subst (λ (a : A). R (see a) y) (sym is) all.0)
  zipped_at (v ∷ xs) (y ∷ ys) (suc i) x all lt is = zipped_at xs ys i x all.1 (omega arith) is

-- ---- results that are handed on

-- the fault that `?` hands on
pub handed_on : {T E : Type 0} (r : Result T E) (fault : E) → IsErrAnd r (λ e. e ≡ fault) → r ≡ Err fault
handed_on {T = T} {E = E} r fault h = let p = err_from_is_err_and r h in p.1 ∙ ap (λ (e : E). Err e) p.2

-- is the one that is looked for, where the call's own was
pub told_on : {T E : Type 0} (r : Result T E) (fault own : E) → IsErrAnd r (λ e. e ≡ fault) → fault ≡ own → IfErr r (λ e. e ≡ own)
told_on {T = T} {E = E} r fault own h is = subst (λ (a : Result T E). IfErr a (λ e. e ≡ own)) (sym (handed_on r fault h)) is
