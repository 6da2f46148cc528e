-- Where an upload stands under its own key, a look-up by that key finds it and no other.
use Rattle.std.proofs.Common.{◌≡◌, ◌⊎◌, ◌↔◌, inl, inr, refl, sym, ap, subst, ◌∙◌, ℕ, Bool, true, false, cond, List, [], ◌∷◌, ◌++◌, true≢false, Option, None, Some, is_some, Result, Ok, Err, OnOk, OnErr, Contains, arith}
use Rattle.std.specs.Cmp.{IsEquivalence}
use Rattle.std.specs.List.{AllByRecursion, IsDistinct}
use Rattle.std.specs.Map.{keys_of, values_of, lookup}
use Rattle.std.proofs.ByRecursion.{All-push}
use Rattle.std.proofs.lemmas.List.Elements.{Contains-append_left, Contains-append_right, Contains-append_cases, Contains-push, Contains-push_cases}
use Rattle.std.proofs.lemmas.Map.Views.{lookup-from_Contains}

contains_one : {X : Type 0} (x y : X) → Contains (x ∷ []) y → x ≡ y
contains_one x y among = by (Contains-push_cases [] x y among)
  where
    by : Contains [] y ⊎ (x ≡ y) → x ≡ y
    by (inl none) = absurd (omega (arith, none.1))
    by (inr same) = same

-- the value that a look-up finds is one of the values
module _ {K : Type 0} (test : K → Bool) (text : List ℕ) where
  value_by : (entry : K × List ℕ) (entries : List (K × List ℕ)) (passes : Bool) → test entry.0 ≡ passes
      → lookup test (entry ∷ entries) ≡ Some text → (lookup test entries ≡ Some text → Contains (values_of entries) text)
      → Contains (values_of (entry ∷ entries)) text
  value_by entry entries true here found rest =
      let is : Some entry.1 ≡ Some text = sym (ap (λ b. cond b (Some entry.1) (lookup test entries)) here) ∙ found in
      let same : entry.1 ≡ text = cc in
      Contains-append_left (entry.1 ∷ []) (values_of entries) text (subst (Contains (entry.1 ∷ [])) same (Contains-push [] entry.1))
  value_by entry entries false other found rest =
      Contains-append_right (entry.1 ∷ []) (values_of entries) text
      (rest (sym (ap (λ b. cond b (Some entry.1) (lookup test entries)) other) ∙ found))

  pub value_from_lookup : (entries : List (K × List ℕ)) → lookup test entries ≡ Some text → Contains (values_of entries) text
  value_from_lookup [] found = absurd (cc)
  value_from_lookup (entry ∷ entries) found = value_by entry entries (test entry.0) refl found (value_from_lookup entries)

-- a look-up by the key under which a text stands finds it, where it is one of the values
module _ {K : Type 0} (eq : K → K → Bool) (laws : IsEquivalence eq) (stands : K × List ℕ → Type 0) (key : K) (text : List ℕ) (own : (entry : K × List ℕ) → stands entry → entry.1 ≡ text → entry.0 ≡ key) where
  entry_by : (entry : K × List ℕ) (entries : List (K × List ℕ)) → stands entry → Contains (entry.1 ∷ []) text ⊎ Contains entries (key, text)
      → Contains (entry ∷ entries) (key, text)
  entry_by entry entries is (inl here) =
      let text_is = contains_one entry.1 text here in
      let key_is = own entry is text_is in
      let same : entry ≡ (key, text) = (λ i. (key_is i, text_is i)) in
      subst (Contains (entry ∷ entries)) same
      (Contains-append_left (entry ∷ []) entries entry (Contains-push [] entry))
  entry_by entry entries is (inr later) = Contains-append_right (entry ∷ []) entries (key, text) later

  later_by : (entry : K × List ℕ) (entries : List (K × List ℕ)) → Contains (entry.1 ∷ []) text ⊎ Contains (values_of entries) text
      → (Contains (values_of entries) text → Contains entries (key, text)) → Contains (entry.1 ∷ []) text ⊎ Contains entries (key, text)
  later_by entry entries (inl here) rest = inl here
  later_by entry entries (inr later) rest = inr (rest later)

  entry_from_value : (entries : List (K × List ℕ)) → AllByRecursion stands entries → Contains (values_of entries) text → Contains entries (key, text)
  entry_from_value [] each among = absurd (omega (arith, among.1))
  entry_from_value (entry ∷ entries) each among =
      entry_by entry entries each.0
      (later_by entry entries (Contains-append_cases (entry.1 ∷ []) (values_of entries) text among) (entry_from_value entries each.1))

  pub lookup_from_value : (entries : List (K × List ℕ)) → AllByRecursion stands entries → IsDistinct eq (keys_of entries) → Contains (values_of entries) text
      → lookup (eq key) entries ≡ Some text
  lookup_from_value entries each distinct among =
      lookup-from_Contains laws key text entries distinct (entry_from_value entries each among)

-- where none is said to be there, none is found
pub none_found : {X : Type 0} (found : Option X) (there : Bool) → there ≡ is_some found → there ≡ false → found ≡ None
none_found None there is none = refl
none_found (Some x) there is none = absurd (true≢false (sym is ∙ none))

-- where one more is put that stands under its key, or none, each stands under its key
pub stand_with : {K E : Type 0} (stands : K × List ℕ → Type 0) (old new : List (K × List ℕ)) (entry : K × List ℕ) (put : Result (Unit {0}) E)
    → OnOk put (new ≡ old ++ entry ∷ []) → OnErr put (new ≡ old) → stands entry → AllByRecursion stands old → AllByRecursion stands new
stand_with stands old new entry (Ok u) more same one each =
    subst (AllByRecursion stands) (sym more) (All-push stands old entry each one)
stand_with stands old new entry (Err e) more same one each = subst (AllByRecursion stands) (sym same) each

-- ---- among two lists, one behind the other

module _ {X : Type 0} (xs ys : List X) (x : X) where
  pub among_first : {among : Type 0} → (among ↔ Contains xs x) → among → among ↔ Contains (xs ++ ys) x
  among_first is there = ((λ _. Contains-append_left xs ys x (is.0 there)), (λ _. there))

  later_of : (Contains xs x → ⊥) → Contains xs x ⊎ Contains ys x → Contains ys x
  later_of none (inl first) = absurd (none first)
  later_of none (inr later) = later

  pub among_later : {among : Type 0} → (Contains xs x → ⊥) → (among ↔ Contains ys x) → among ↔ Contains (xs ++ ys) x
  among_later none is = (
    (λ later. Contains-append_right xs ys x (is.0 later)),
    (λ there. is.1 (later_of none (Contains-append_cases xs ys x there))),
  )
