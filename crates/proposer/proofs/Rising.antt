-- What a list of reports says of a slot, where its slots rise.
use Rattle.std.proofs.Common.{◌≡◌, ◌≢◌, ℕ, suc, ◌<◌, ◌≤◌, inl, inr, true, List, [], ◌∷◌, length, drop, Option, Some, None, refl, sym, ap, subst, ◌∙◌, arith, eq-eqb, ne_eqb, lt-ltb, get_or}
use Rattle.std.proofs.lemmas.Bool.{cases_eq, cases_lt, le-leb, leb-true, lt-leb}
use Rattle.ballots.specs.declared.acceptance.Acceptance.{Acceptance}
use Rattle.proposer.specs.Reporting.{report_of, rises_from}
use Rattle.proposer.specs.Kept.{from_slot, IsFrontBelow}
use Rattle.proposer.proofs.Opening.{both_true}

abbrev Reported : Type 0
Reported = ℕ × Acceptance

-- ---- rising slots

pub first_within : (least : ℕ) (x : Reported) (xs : List Reported) → rises_from least (x ∷ xs) ≡ true → least ≤ x.0
first_within least x xs rises = leb-true least x.0 (both_true _ _ rises).0

pub rest_rises : (least : ℕ) (x : Reported) (xs : List Reported) → rises_from least (x ∷ xs) ≡ true → rises_from (suc x.0) xs ≡ true
rest_rises least x xs rises = (both_true _ _ rises).1

pub they_rise : (least : ℕ) (x : Reported) (xs : List Reported) → least ≤ x.0 → rises_from (suc x.0) xs ≡ true → rises_from least (x ∷ xs) ≡ true
they_rise least x xs le rises = rw (le-leb least x.0 le, rises) refl

pub rises_lower : (low least : ℕ) (xs : List Reported) → low ≤ least → rises_from least xs ≡ true → rises_from low xs ≡ true
rises_lower low least [] le rises = refl
rises_lower low least (x ∷ xs) le rises =
    let first : least ≤ x.0 = first_within least x xs rises in
    they_rise low x xs (omega (arith, le, first)) (rest_rises least x xs rises)

-- nothing is reported of a slot below
pub none_below : (slot least : ℕ) (xs : List Reported) → slot < least → rises_from least xs ≡ true → report_of slot xs ≡ None
none_below slot least [] lt rises = refl
none_below slot least (x ∷ xs) lt rises =
    let first : least ≤ x.0 = first_within least x xs rises in
    rw (ne_eqb x.0 slot (λ same. absurd (omega (arith, lt, first, same)))) (none_below slot (suc x.0) xs (omega (arith, lt, first)) (rest_rises least x xs rises))

-- ---- from a slot on

pub from_there : (least : ℕ) (xs : List Reported) → rises_from least xs ≡ true → from_slot least xs ≡ xs
from_there least [] rises = refl
from_there least (x ∷ xs) rises = rw (lt-leb (suc x.0) least (let first : least ≤ x.0 = first_within least x xs rises in omega (arith, first))) refl

pub from_rises : (least slot : ℕ) (xs : List Reported) → rises_from least xs ≡ true → rises_from slot (from_slot slot xs) ≡ true
from_rises least slot [] rises = refl
from_rises least slot (x ∷ xs) rises = elim (cases_lt x.0 slot) as (λ _. rises_from slot (from_slot slot (x ∷ xs)) ≡ true) [
  | inl lt ↦ rw (lt-ltb x.0 slot lt) (from_rises (suc x.0) slot xs (rest_rises least x xs rises))
  | inr not ↦ rw (lt-leb (suc x.0) slot (omega (arith, not))) (they_rise slot x xs (omega (arith, not)) (rest_rises least x xs rises))
]

pub from_says : (slot at : ℕ) (xs : List Reported) → slot ≤ at → report_of at (from_slot slot xs) ≡ report_of at xs
from_says slot at [] le = refl
from_says slot at (x ∷ xs) le = elim (cases_lt x.0 slot) as (λ _. report_of at (from_slot slot (x ∷ xs)) ≡ report_of at (x ∷ xs)) [
  | inl lt ↦ rw (lt-ltb x.0 slot lt, ne_eqb x.0 at (λ same. absurd (omega (arith, le, lt, same)))) (from_says slot at xs le)
  | inr not ↦ rw (lt-leb (suc x.0) slot (omega (arith, not))) refl
]

-- ---- the first of them

-- it is not of the lowest slot, so none is
pub other_first : (slot : ℕ) (x : Reported) (xs : List Reported) → x.0 ≢ slot → rises_from slot (x ∷ xs) ≡ true → report_of slot (x ∷ xs) ≡ None
other_first slot x xs differs rises =
    let first : slot ≤ x.0 = first_within slot x xs rises in
    rw (ne_eqb x.0 slot differs) (none_below slot (suc x.0) xs (omega (arith, first)) (rest_rises slot x xs rises))

pub none_there : (slot : ℕ) (xs : List Reported) → rises_from slot xs ≡ true → report_of slot xs ≡ None → from_slot (suc slot) xs ≡ xs
none_there slot [] rises none = refl
none_there slot (x ∷ xs) rises none = elim (cases_eq x.0 slot) as (λ _. from_slot (suc slot) (x ∷ xs) ≡ x ∷ xs) [
  | inl same ↦ absurd (let no : Some x.1 ≡ None = rw (eq-eqb x.0 slot same) at none in cc)
  | inr differs ↦
      let first : slot ≤ x.0 = first_within slot x xs rises in
      from_there (suc slot) (x ∷ xs) (they_rise (suc slot) x xs (omega (arith, first, differs)) (rest_rises slot x xs rises))
]

pub is_there : (slot : ℕ) (x : Reported) (xs : List Reported) → x.0 ≡ slot → report_of slot (x ∷ xs) ≡ Some x.1
is_there slot x xs same = rw (eq-eqb x.0 slot same) refl

pub behind_it : (slot : ℕ) (x : Reported) (xs : List Reported) → x.0 ≡ slot → rises_from slot (x ∷ xs) ≡ true → from_slot (suc slot) (x ∷ xs) ≡ xs
behind_it slot x xs same rises =
    let rest : rises_from (suc slot) xs ≡ true = subst (λ (s : ℕ). rises_from (suc s) xs ≡ true) same (rest_rises slot x xs rises) in
    rw (lt-ltb x.0 (suc slot) (omega (arith, same))) (from_there (suc slot) xs rest)

-- something is reported of the slot, so the first is of it
pub first_is : (slot : ℕ) (x : Reported) (xs : List Reported) (report : Acceptance) → rises_from slot (x ∷ xs) ≡ true → report_of slot (x ∷ xs) ≡ Some report → x.0 ≡ slot
first_is slot x xs report rises some = elim (cases_eq x.0 slot) as (λ _. x.0 ≡ slot) [
  | inl same ↦ same
  | inr differs ↦ absurd (let no : Some report ≡ None = sym some ∙ other_first slot x xs differs rises in cc)
]

-- told by the first element
not_of_first : (slot : ℕ) (x : Reported) (xs : List Reported) → 0 < length xs → x ≡ get_or xs 0 x → x.0 ≢ slot → rises_from slot xs ≡ true → report_of slot xs ≡ None
not_of_first slot x [] some is differs rises = absurd (omega (arith, some))
not_of_first slot x (y ∷ xs) some is differs rises = other_first slot y xs (λ same. differs (ap (λ (r : Reported). r.0) is ∙ same)) rises

of_first : (slot : ℕ) (x : Reported) (xs : List Reported) → 0 < length xs → x ≡ get_or xs 0 x → x.0 ≡ slot → report_of slot xs ≡ Some x.1
of_first slot x [] some is same = absurd (omega (arith, some))
of_first slot x (y ∷ xs) some is same = is_there slot y xs (ap (λ (r : Reported). r.0) (sym is) ∙ same) ∙ ap (λ (r : Reported). Some r.1) (sym is)

-- what is said by the first alone is said by all
pub by_first : (slot : ℕ) (x : Reported) (xs : List Reported) (said : Option Acceptance) → 0 < length xs → x ≡ get_or xs 0 x
    → (x.0 ≢ slot → said ≡ None) → (x.0 ≡ slot → said ≡ Some x.1) → rises_from slot xs ≡ true → said ≡ report_of slot xs
by_first slot x xs said some is other own rises = elim (cases_eq x.0 slot) as (λ _. said ≡ report_of slot xs) [
  | inl same ↦ own same ∙ sym (of_first slot x xs some is same)
  | inr differs ↦ other differs ∙ sym (not_of_first slot x xs some is differs rises)
]

-- told by what it leaves
module _ (slot : ℕ) (xs rest : List Reported) (x : Reported) (report : Acceptance) (split : xs ≡ x ∷ rest) (rises : rises_from slot xs ≡ true) (some : Some report ≡ report_of slot xs) where
  is_its : x.0 ≡ slot
  is_its = first_is slot x rest report (rw split at rises) (rw split at (sym some))

  pub taken_is : Some x.1 ≡ report_of slot xs
  taken_is = rw split (sym (is_there slot x rest is_its))

  pub taken_rest : rest ≡ from_slot (suc slot) xs
  taken_rest = rw split (sym (behind_it slot x rest is_its (rw split at rises)))

-- ---- without the first

pub fewer : (slot : ℕ) (xs rest : List Reported) → IsFrontBelow slot xs → rest ≡ drop 1 xs → length rest < length xs
fewer slot [] rest below is = absurd below
fewer slot (x ∷ xs) rest below is = rw is (omega arith)
