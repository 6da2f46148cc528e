-- What a learner was told has one prefix, and one free slot that leaves so many free ones below it.
use Rattle.std.proofs.Common.{◌≡◌, ℕ, zero, suc, ◌<◌, ◌≤◌, inl, inr, Bool, true, false, List, length, refl, sym, ap, subst, ◌∙◌, arith}
use Rattle.std.proofs.lemmas.Option.{slice_get_cases, slice_get-get_or}
use Rattle.std.proofs.lemmas.List.{same_lists}
use Rattle.std.proofs.lemmas.Bool.{cases_lt}
use Rattle.ballots.specs.declared.value.Value.{Value}
use Rattle.ballots.specs.Majority.{tally}
use Rattle.ballots.proofs.CallerLemmas.{with_one, tally_same}
use Rattle.learner.specs.Calls.{LearnerCall, IsLearned}
use Rattle.agreement_rules.specs.Views.{IsFreeAfter, HasPrefix}

-- the learner's law that is used
abbrev pub OneValue : Type 0
OneValue = (members : ℕ) (calls : List LearnerCall) (slot : ℕ) (v w : Value) → IsLearned members calls slot v → IsLearned members calls slot w → v ≡ w

-- ---- prefixes

no_longer : (members : ℕ) (calls : List LearnerCall) (xs ys : List Value) → HasPrefix members calls xs → HasPrefix members calls ys → length ys ≤ length xs
no_longer members calls xs ys x y =
    elim (slice_get_cases ys (length xs)).1 [
      | inl there ↦ absurd (x.gap there.0 (y.learned (length xs) there.0 there.2))
      | inr past ↦ past.0
    ]

pub one_prefix : OneValue → (members : ℕ) (calls : List LearnerCall) (xs ys : List Value) → HasPrefix members calls xs → HasPrefix members calls ys → xs ≡ ys
one_prefix one_value members calls xs ys x y =
    let no_more : length ys ≤ length xs = no_longer members calls xs ys x y in
    let no_less : length xs ≤ length ys = no_longer members calls ys xs y x in
    let same : length xs ≡ length ys = omega (arith, no_more, no_less) in
    same_lists xs ys same (λ k d within.
    let there : k < length ys = omega (arith, within, same) in
    one_value members calls k _ _ (x.learned k _ (slice_get-get_or xs k d within)) (y.learned k _ (slice_get-get_or ys k d there)))

-- ---- free slots

grows : (b : Bool) (size : ℕ) → size ≤ with_one b size
grows true size = omega arith
grows false size = omega arith

-- up to a later slot no fewer are counted
tally_up : (m n : ℕ) (p : ℕ → Bool) → m ≤ n → tally m p ≤ tally n p
tally_up m zero p le =
    let none : m ≡ 0 = omega (arith, le) in
    subst (λ (k : ℕ). tally k p ≤ 0) (sym none) (omega arith)
tally_up m (suc n) p le = elim (cases_lt m (suc n)) as (λ _. tally m p ≤ tally (suc n) p) [
  | inl lt ↦
      let below : tally m p ≤ tally n p = tally_up m n p (omega (arith, lt)) in
      let more : tally n p ≤ tally (suc n) p = grows (p n) (tally n p) in
      omega (arith, below, more)
  | inr ge ↦
      let same : suc n ≡ m = omega (arith, ge, le) in
      subst (λ (k : ℕ). tally m p ≤ tally k p) (sym same) (omega arith)
]

same_tests : (a b : Bool) → (a ≡ true → b ≡ true) → (b ≡ true → a ≡ true) → a ≡ b
same_tests true true there back = refl
same_tests true false there back = sym (there refl)
same_tests false true there back = back refl
same_tests false false there back = refl

-- of two slots that leave so many free ones below them, the first would count for the second
not_after : (members : ℕ) (calls : List LearnerCall) (count s t : ℕ) → s < t → IsFreeAfter members calls count s → IsFreeAfter members calls count t → ⊥
not_after members calls count s t lt first second =
    let below : tally s second.is_free ≡ count =
    tally_same s second.is_free first.is_free (λ a within.
    let of_second = second.tells a (omega (arith, within, lt)) in
    let of_first = first.tells a within in
    same_tests (second.is_free a) (first.is_free a) (λ passes. of_first.1 (of_second.0 passes)) (λ passes. of_second.1 (of_first.0 passes)))
    ∙ first.below in
    let counts : tally (suc s) second.is_free ≡ suc count =
    ap (λ (b : Bool). with_one b (tally s second.is_free)) ((second.tells s lt).1 first.free) ∙ ap suc below in
    let up : tally (suc s) second.is_free ≤ tally t second.is_free = tally_up (suc s) t second.is_free (omega (arith, lt)) in
    omega (arith, counts, up, second.below)

pub one_free_slot : (members : ℕ) (calls : List LearnerCall) (count s t : ℕ) → IsFreeAfter members calls count s → IsFreeAfter members calls count t → s ≡ t
one_free_slot members calls count s t first second = elim (cases_lt s t) as (λ _. s ≡ t) [
  | inl lt ↦ absurd (not_after members calls count s t lt first second)
  | inr ge ↦ elim (cases_lt t s) as (λ _. s ≡ t) [
    | inl gt ↦ absurd (not_after members calls count t s gt second first)
    | inr le ↦ omega (arith, ge, le)
  ]
]
