-- What is in a list of one element or none, and in a list that comes first and rest.
use Rattle.std.proofs.Common.{◌≡◌, zero, suc, ◌⊎◌, inl, inr, List, [], ◌∷◌, refl, sym, subst, arith}
use Rattle.std.specs.List.{Contains}
use Rattle.std.proofs.lemmas.List.Elements.{Contains-append_left, Contains-append_right, Contains-append_cases}

module _ {X : Type 0} where
  pub nothing_in : (x : X) → Contains [] x → ⊥
  nothing_in x has = absurd (omega (arith, has.1))

  pub one_in : (x : X) → Contains (x ∷ []) x
  one_in x = (0, omega arith, refl)

  pub only_one : (x y : X) → Contains (x ∷ []) y → y ≡ x
  only_one x y (zero, within, same) = sym same
  only_one x y (suc k, within, same) = absurd (omega (arith, within))

  pub in_front : (x : X) (xs : List X) → Contains (x ∷ xs) x
  in_front x xs = Contains-append_left (x ∷ []) xs x (one_in x)

  pub behind_front : (y x : X) (xs : List X) → Contains xs x → Contains (y ∷ xs) x
  behind_front y x xs has = Contains-append_right (y ∷ []) xs x has

  pub first_or_rest : (y x : X) (xs : List X) → Contains (y ∷ xs) x → (x ≡ y) ⊎ Contains xs x
  first_or_rest y x xs has = elim (Contains-append_cases (y ∷ []) xs x has) as (λ _. (x ≡ y) ⊎ Contains xs x) [
    | inl one ↦ inl (only_one y x one)
    | inr rest ↦ inr rest
  ]

  -- the list has this one element, or none
  pub of_one : (xs : List X) (x y : X) → xs ≡ x ∷ [] → Contains xs y → y ≡ x
  of_one xs x y is has = only_one x y (subst (λ (l : List X). Contains l y) is has)

  pub of_none : (xs : List X) (y : X) → xs ≡ [] → Contains xs y → ⊥
  of_none xs y is has = nothing_in y (subst (λ (l : List X). Contains l y) is has)
