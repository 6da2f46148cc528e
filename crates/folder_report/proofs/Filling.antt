-- The values of the slots from 0 on, by one message more.
use Rattle.std.proofs.Common.{◌≡◌, ◌≢◌, ◌⊎◌, inl, inr, ◌==◌, ◌<◌, ◌≤◌, ◌+◌, ◌++◌, ◌∷◌, [], ℕ, zero, suc, Bool, true, false, cond, List, length, get_or, take, slice_get, Some, None, refl, sym, ap, subst, ◌∙◌, eq-eqb, ne_eqb, arith}
use Rattle.std.specs.List.{All}
use Rattle.std.specs.List.Sorted.{IsNonDecreasingBy}
use Rattle.std.proofs.lemmas.Bool.{cases_eq}
use Rattle.std.proofs.lemmas.List.{get_or-take, get_or_read, length-take-le, length_push, take_more}
use Rattle.std.proofs.lemmas.List.Elements.{All-get_or, All-push, All-weaker}
use Rattle.ballots.specs.declared.message.Message.{Message}
use Rattle.ballots.specs.declared.record.Record.{Record}
use Rattle.ballots.specs.declared.value.Value.{Value}
use Rattle.chosen_records.specs.Chosen.{IsChosenAt, TellsChosen}
use Rattle.folder_report.specs.Values.{FillSlots, followed_by, value_told}

-- what stands at a place of a list with one element more
place_cases : {X : Type 0} (xs : List X) (y : X) (i : ℕ) (x : X) → slice_get (xs ++ y ∷ []) i ≡ Some x → (slice_get xs i ≡ Some x) ⊎ ((length xs ≡ i) × (y ≡ x))
place_cases [] y zero x is = inr (refl, cc)
place_cases [] y (suc i) x is = absurd (let no : None ≡ Some x = is in cc)
place_cases (z ∷ xs) y zero x is = inl is
place_cases (z ∷ xs) y (suc i) x is = elim (place_cases xs y i x is) [
  | inl before ↦ inl before
  | inr last ↦ inr (ap suc last.0, last.1)
]

-- one element more of a list
pub next_taken : {X : Type 0} (xs : List X) (i : ℕ) (x : X) → i < length xs → x ≡ get_or xs i x → take i xs ++ x ∷ [] ≡ take (i + 1) xs
next_taken xs i x within is = ap (λ (y : _). take i xs ++ y ∷ []) is ∙ sym (take_more xs i x within)

-- the slots of the messages before one are no later than its own
up_to : (told : List Message) (i : ℕ) (m : Message) → IsNonDecreasingBy (λ (x : Message). x.slot) told → i < length told → m ≡ get_or told i m → All (λ (x : Message). x.slot ≤ m.slot) (take i told)
up_to told i m rising within is k d lt =
    let below : k < i = omega (arith, lt, length-take-le i told (omega (arith, within))) in
    let there : (get_or (take i told) k d).slot ≡ (get_or told k d).slot = ap (λ (x : Message). x.slot) (get_or-take i told k d below) in
    let here : m.slot ≡ (get_or told i d).slot = ap (λ (x : Message). x.slot) (get_or_read told i m within is d) in
    omega (arith, there, here, rising k i d (omega (arith, below)) within)

module _ (members : ℕ) (all : List (List Record)) where
  module _ (told : List Message) (values : List Value) (fill : FillSlots members all told values) (m : Message) (is : TellsChosen members all m)
      (up : All (λ (x : Message). x.slot ≤ m.slot) told) where
    tells : value_told m.body ≡ is.1 ∷ []
    tells = ap (λ (x : Message). value_told x.body) is.2

    one_longer : length (values ++ value_told m.body) ≡ length values + 1
    one_longer = ap (λ (l : List Value). length (values ++ l)) tells ∙ length_push values is.1

    pushed : m.slot ≡ length values → FillSlots members all (told ++ m ∷ []) (values ++ value_told m.body)
    pushed here = record {
      chosen = λ slot value at. elim (place_cases values is.1 slot value (subst (λ (l : List Value). slice_get (values ++ l) slot ≡ Some value) tells at)) [
        | inl before ↦ fill.chosen slot value before
        | inr last ↦ (
          is.0,
          subst (λ (v : Value). IsChosenAt members all slot is.0 v) last.1 (subst (λ (s : ℕ). IsChosenAt members all s is.0 is.1) (here ∙ last.0) is.3),
        )
      ];
      ends =
          All-push (λ (x : Message). x.slot ≢ length (values ++ value_told m.body)) told m
          (All-weaker (λ (x : Message). x.slot ≤ m.slot) (λ (x : Message). x.slot ≢ length (values ++ value_told m.body)) (λ x le same. omega (arith, le, same, here, one_longer)) told up)
          (λ same. omega (arith, same, here, one_longer));
    }

    passed : m.slot ≢ length values → FillSlots members all (told ++ m ∷ []) values
    passed apart = record {
      chosen = fill.chosen;
      ends = All-push (λ (x : Message). x.slot ≢ length values) told m fill.ends apart;
    }

    followed : FillSlots members all (told ++ m ∷ []) (followed_by values m)
    followed = elim (cases_eq m.slot (length values)) [
      | inl here ↦
          let test : (m.slot == length values) ≡ true = eq-eqb m.slot (length values) here in
          subst (λ (b : Bool). FillSlots members all (told ++ m ∷ []) (cond b (values ++ value_told m.body) values)) (sym test) (pushed here)
      | inr apart ↦
          let test : (m.slot == length values) ≡ false = ne_eqb m.slot (length values) apart in
          subst (λ (b : Bool). FillSlots members all (told ++ m ∷ []) (cond b (values ++ value_told m.body) values)) (sym test) (passed apart)
    ]

  -- one message further
  pub fills_more : (told : List Message) (i : ℕ) (m : Message) (values more : List Value) → i < length told → m ≡ get_or told i m → All (TellsChosen members all) told
      → IsNonDecreasingBy (λ (x : Message). x.slot) told → more ≡ followed_by values m → FillSlots members all (take i told) values → FillSlots members all (take (i + 1) told) more
  fills_more told i m values more within is only rising grown fill =
      let chosen : TellsChosen members all m = subst (TellsChosen members all) (sym is) (All-get_or (TellsChosen members all) told i m within only) in
      subst (λ (l : List Message). FillSlots members all l more) (next_taken told i m within is)
      (subst (FillSlots members all (take i told ++ m ∷ [])) (sym grown) (followed (take i told) values fill m chosen (up_to told i m rising within is)))
