-- What slots from a first one on have, read off the entries of a map: the highest of their promises, and what they have accepted.
use Rattle.std.proofs.Common.{◌≡◌, ℕ, ◌<◌, ◌≤◌, Bool, true, false, leb, nat_eq, nat_cmp, if◌then◌else◌, List, [], ◌∷◌, ◌++◌, filter, get_or, Option, Some, None, ◌⊎◌, inl, inr, refl, sym, ap, subst, ◌∙◌, arith, le-leb, leb-true}
use Rattle.std.specs.List.{AllByRecursion, Contains, IsDistinct}
use Rattle.std.specs.List.Sorted.{IsSorted, IsStrictlyIncreasing}
use Rattle.std.specs.Map.{keys_of}
use Rattle.std.specs.Ordering.{is_lt}
use Rattle.std.proofs.lemmas.Bool.{lt-leb}
use Rattle.std.proofs.lemmas.Bool.Decides.{eqb_tells, nat_tests}
use Rattle.std.proofs.lemmas.Cmp.{nat_eq_equiv}
use Rattle.std.proofs.lemmas.List.Elements.{All-contains, All-from_recursion, Contains-append_left, Contains-append_right, Contains-append_cases, Contains-push, Contains-get_or, filter-append, filter_passes}
use Rattle.std.proofs.lemmas.List.{append_assoc, append-nil}
use Rattle.std.proofs.lemmas.List.Sorted.{IsNonDecreasingBy-from_sort}
use Rattle.std.proofs.lemmas.List.Kept.{IsStrictlyIncreasing-filter}
use Rattle.std.proofs.lemmas.Map.Keys.{IsStrictlyIncreasing-from_distinct}
use Rattle.std.proofs.lemmas.Map.Views.{Contains-from_lookup, lookup-from_Contains}
use Rattle.ballots.specs.Ballot.{Ballot, IsBelow, IsAtLeast, ballot_cmp}
use Rattle.ballots.specs.Limits.{max_slot}
use Rattle.ballots.specs.declared.acceptance.Acceptance.{Acceptance}
use Rattle.ballots.proofs.CallerLemmas.{below_carried, at_least_where_not_below}
use Rattle.acceptor.specs.AcceptorState.{at}
use Rattle.acceptor.specs.Ranges.{higher}
use Rattle.acceptor.specs.Ranged.{IsFrom, IsHighestFrom, AreAcceptances}
use Rattle.acceptor.proofs.Lists.{nothing_in, only_one}
use Rattle.acceptor.proofs.Ranging.{weaker, all_pushed}

-- ---- the higher of two ballots

pub below_if : (a b : Ballot) → is_lt (ballot_cmp a b) ≡ true → IsBelow a b
below_if a b e = grind (arith, nat_tests)

pub not_below_if : (a b : Ballot) → is_lt (ballot_cmp a b) ≡ false → IsBelow a b → ⊥
not_below_if a b e (inl lt) = grind (arith, nat_tests)
not_below_if a b e (inr both) = grind (arith, nat_tests)

pub higher_cases : (a b : Ballot) → ((higher (Some a) (Some b) ≡ Some b) × IsBelow a b) ⊎ ((higher (Some a) (Some b) ≡ Some a) × IsAtLeast a (Some b))
higher_cases a b = by (is_lt (ballot_cmp a b)) refl
  where
    by : (t : Bool) → is_lt (ballot_cmp a b) ≡ t → (((if t then Some b else Some a) ≡ Some b) × IsBelow a b) ⊎ (((if t then Some b else Some a) ≡ Some a) × IsAtLeast a (Some b))
    by true e = inl (refl, below_if a b e)
    by false e = inr (refl, (at_least_where_not_below b a).1 (not_below_if a b e))

pub at_least_above : (a b : Ballot) (o : Option Ballot) → IsBelow a b → IsAtLeast a o → IsAtLeast b o
at_least_above a b None below more = tt
at_least_above a b (Some c) below (inl more) = inl (below_carried c a b more below)
at_least_above a b (Some c) below (inr same) = inl (subst (λ (x : Ballot). IsBelow x b) (sym same) below)

-- ---- one entry more, and all entries

pub entry_more : {X : Type 0} (done left rest all : List X) (x : X) → done ++ left ≡ all → left ≡ x ∷ rest → (done ++ x ∷ []) ++ rest ≡ all
entry_more {X} done left rest all x whole is = append_assoc done (x ∷ []) rest ∙ ap (λ (l : List X). done ++ l) (sym is) ∙ whole

pub entries_all : {X : Type 0} (done left all : List X) → done ++ left ≡ all → left ≡ [] → done ≡ all
entries_all {X} done left all whole none = sym (append-nil done) ∙ ap (λ (l : List X). done ++ l) (sym none) ∙ whole

-- ---- the highest promise of the entries

-- the highest ballot of the entries from a first slot on, of which one has it, or none where there are no such entries
abbrev pub HighestOf : List (ℕ × Ballot) → ℕ → Option Ballot → Type 0
HighestOf entries first None = AllByRecursion (λ entry. first ≤ entry.0 → ⊥) entries
HighestOf entries first (Some ballot) =
    (slot : ℕ) × IsFrom first slot × Contains entries (slot, ballot) × AllByRecursion (λ entry. first ≤ entry.0 → IsAtLeast ballot (Some entry.1)) entries

pub highest_passed : (entries : List (ℕ × Ballot)) (first : ℕ) (o : Option Ballot) (entry : ℕ × Ballot) → HighestOf entries first o → entry.0 < first
    → HighestOf (entries ++ entry ∷ []) first o
highest_passed entries first None entry none below =
    all_pushed (λ (e : ℕ × Ballot). first ≤ e.0 → ⊥) entries entry none (λ le. absurd (omega (arith, le, below)))
highest_passed entries first (Some ballot) entry (slot, from, has, all) below = (
  slot,
  from,
  Contains-append_left entries (entry ∷ []) (slot, ballot) has,
  all_pushed (λ (e : ℕ × Ballot). first ≤ e.0 → IsAtLeast ballot (Some e.1)) entries entry all (λ le. absurd (omega (arith, le, below))),
)

pub highest_with : (entries : List (ℕ × Ballot)) (first : ℕ) (o : Option Ballot) (slot : ℕ) (ballot : Ballot) → HighestOf entries first o → IsFrom first slot
    → HighestOf (entries ++ (slot, ballot) ∷ []) first (higher o (Some ballot))
highest_with entries first None slot ballot none from = (
  slot,
  from,
  Contains-push entries (slot, ballot),
  all_pushed (λ (e : ℕ × Ballot). first ≤ e.0 → IsAtLeast ballot (Some e.1)) entries (slot, ballot)
      (weaker (λ (e : ℕ × Ballot). first ≤ e.0 → ⊥) (λ (e : ℕ × Ballot). first ≤ e.0 → IsAtLeast ballot (Some e.1)) (λ e never le. absurd (never le)) entries none) (λ le. inr refl),
)
highest_with entries first (Some held) slot ballot (at_slot, at_from, has, all) from =
    elim (higher_cases held ballot) as (λ _. HighestOf (entries ++ (slot, ballot) ∷ []) first (higher (Some held) (Some ballot))) [
      | inl lower ↦ subst (HighestOf (entries ++ (slot, ballot) ∷ []) first) (sym lower.0) (
        slot,
        from,
        Contains-push entries (slot, ballot),
        all_pushed (λ (e : ℕ × Ballot). first ≤ e.0 → IsAtLeast ballot (Some e.1)) entries (slot, ballot)
            (weaker (λ (e : ℕ × Ballot). first ≤ e.0 → IsAtLeast held (Some e.1)) (λ (e : ℕ × Ballot). first ≤ e.0 → IsAtLeast ballot (Some e.1))
            (λ e more le. at_least_above held ballot (Some e.1) lower.1 (more le)) entries all) (λ le. inr refl),
      )
      | inr kept ↦ subst (HighestOf (entries ++ (slot, ballot) ∷ []) first) (sym kept.0) (
        at_slot,
        at_from,
        Contains-append_left entries ((slot, ballot) ∷ []) (at_slot, held) has,
        all_pushed (λ (e : ℕ × Ballot). first ≤ e.0 → IsAtLeast held (Some e.1)) entries (slot, ballot) all (λ le. kept.1),
      )
    ]

same_number : (x y : ℕ) → nat_eq x y ≡ true → x ≡ y
same_number x y e = elim (eqb_tells x y) as (λ _. x ≡ y) [ inl same ↦ same.1 | inr differs ↦ absurd (let no : true ≡ false = sym e ∙ differs.0 in cc) ]

-- what a map finds is an entry of it, and each entry is found
found_in : {X : Type 0} (entries : List (ℕ × X)) (slot : ℕ) (held : X) → at entries slot ≡ Some held → Contains entries (slot, held)
found_in entries slot held is = Contains-from_lookup same_number slot held entries is

found : {X : Type 0} (entries : List (ℕ × X)) (slot : ℕ) (held : X) → IsDistinct nat_eq (keys_of entries) → Contains entries (slot, held) → at entries slot ≡ Some held
found entries slot held distinct has = lookup-from_Contains nat_eq_equiv slot held entries distinct has

pub highest_found : (entries : List (ℕ × Ballot)) (first : ℕ) (o : Option Ballot) → IsDistinct nat_eq (keys_of entries) → HighestOf entries first o → IsHighestFrom (at entries) first o
highest_found entries first None distinct none = λ slot from. by slot from (at entries slot) refl
  where
    by : (slot : ℕ) → IsFrom first slot → (o : Option Ballot) → at entries slot ≡ o → o ≡ None
    by slot from None e = refl
    by slot from (Some held) e =
        absurd (All-contains (λ (e : ℕ × Ballot). first ≤ e.0 → ⊥) entries (slot, held) (All-from_recursion (λ (e : ℕ × Ballot). first ≤ e.0 → ⊥) entries none) (found_in entries slot held e) from.0)
highest_found entries first (Some ballot) distinct (at_slot, at_from, has, all) = record {
  is_promised = (at_slot, at_from, found entries at_slot ballot distinct has);
  greatest = λ slot from. by slot from (at entries slot) refl;
}
  where
    by : (slot : ℕ) → IsFrom first slot → (o : Option Ballot) → at entries slot ≡ o → IsAtLeast ballot o
    by slot from None e = tt
    by slot from (Some held) e =
        All-contains (λ (e : ℕ × Ballot). first ≤ e.0 → IsAtLeast ballot (Some e.1)) entries (slot, held)
        (All-from_recursion (λ (e : ℕ × Ballot). first ≤ e.0 → IsAtLeast ballot (Some e.1)) entries all) (found_in entries slot held e) from.0

-- ---- the acceptances of the entries

-- the entries from a first slot on, of slots that there are
abbrev pub Reported : List (ℕ × Acceptance) → ℕ → List (ℕ × Acceptance) → Type 0
Reported entries first reports = (reports ≡ filter (λ entry. leb first entry.0) entries) × AllByRecursion (λ report. report.0 ≤ max_slot) reports

filter_passed : (p : ℕ × Acceptance → Bool) (xs : List (ℕ × Acceptance)) (x : ℕ × Acceptance) → p x ≡ false → filter p (xs ++ x ∷ []) ≡ filter p xs
filter_passed p xs x e = filter-append p xs (x ∷ []) ∙ ap (λ (b : Bool). filter p xs ++ (if b then x ∷ [] else [])) e ∙ append-nil (filter p xs)

filter_kept : (p : ℕ × Acceptance → Bool) (xs : List (ℕ × Acceptance)) (x : ℕ × Acceptance) → p x ≡ true → filter p (xs ++ x ∷ []) ≡ filter p xs ++ x ∷ []
filter_kept p xs x e = filter-append p xs (x ∷ []) ∙ ap (λ (b : Bool). filter p xs ++ (if b then x ∷ [] else [])) e

pub report_passed : (entries : List (ℕ × Acceptance)) (first : ℕ) (reports : List (ℕ × Acceptance)) (entry : ℕ × Acceptance) → Reported entries first reports → entry.0 < first
    → Reported (entries ++ entry ∷ []) first reports
report_passed entries first reports entry (is, within) below =
    (is ∙ sym (filter_passed (λ entry. leb first entry.0) entries entry (lt-leb first entry.0 below)), within)

pub report_with : (entries : List (ℕ × Acceptance)) (first : ℕ) (reports : List (ℕ × Acceptance)) (entry : ℕ × Acceptance) → Reported entries first reports → IsFrom first entry.0
    → Reported (entries ++ entry ∷ []) first (reports ++ entry ∷ [])
report_with entries first reports entry (is, within) from = (
  ap (λ (l : List (ℕ × Acceptance)). l ++ entry ∷ []) is ∙ sym (filter_kept (λ entry. leb first entry.0) entries entry (le-leb first entry.0 from.0)),
  all_pushed (λ (report : ℕ × Acceptance). report.0 ≤ max_slot) reports entry within from.1,
)

keys_filtered : (p : ℕ → Bool) (entries : List (ℕ × Acceptance)) → keys_of (filter (λ entry. p entry.0) entries) ≡ filter p (keys_of entries)
keys_filtered p [] = refl
keys_filtered p (x ∷ xs) = by (p x.0) (keys_filtered p xs)
  where
    by : (b : Bool) → keys_of (filter (λ entry. p entry.0) xs) ≡ filter p (keys_of xs)
        → keys_of (if b then x ∷ filter (λ entry. p entry.0) xs else filter (λ entry. p entry.0) xs) ≡ (if b then x.0 ∷ filter p (keys_of xs) else filter p (keys_of xs))
    by true same = ap (λ (l : List ℕ). x.0 ∷ l) same
    by false same = same

-- an entry that passes is kept, and what is kept is an entry that passes
pub kept_in : {X : Type 0} (p : X → Bool) (xs : List X) (x : X) → p x ≡ true → Contains xs x → Contains (filter p xs) x
kept_in p [] x pass has = absurd (nothing_in x has)
kept_in {X} p (y ∷ ys) x pass has = by (p y) refl (λ rest. kept_in p ys x pass rest) (Contains-append_cases (y ∷ []) ys x has)
  where
    by : (b : Bool) → p y ≡ b → (Contains ys x → Contains (filter p ys) x) → Contains (y ∷ []) x ⊎ Contains ys x → Contains (if b then y ∷ filter p ys else filter p ys) x
    by true e rest (inl here) = Contains-append_left (y ∷ []) (filter p ys) x here
    by true e rest (inr there) = Contains-append_right (y ∷ []) (filter p ys) x (rest there)
    by false e rest (inl here) = absurd (let no : true ≡ false = sym pass ∙ ap p (only_one y x here) ∙ e in cc)
    by false e rest (inr there) = rest there

pub was_in : {X : Type 0} (p : X → Bool) (xs : List X) (x : X) → Contains (filter p xs) x → Contains xs x
was_in p [] x has = has
was_in {X} p (y ∷ ys) x has = by (p y) (λ rest. was_in p ys x rest) has
  where
    by : (b : Bool) → (Contains (filter p ys) x → Contains ys x) → Contains (if b then y ∷ filter p ys else filter p ys) x → Contains (y ∷ ys) x
    by true rest has = elim (Contains-append_cases (y ∷ []) (filter p ys) x has) as (λ _. Contains (y ∷ ys) x) [
      | inl here ↦ Contains-append_left (y ∷ []) ys x here
      | inr there ↦ Contains-append_right (y ∷ []) ys x (rest there)
    ]
    by false rest has = Contains-append_right (y ∷ []) ys x (rest has)

module _ (entries : List (ℕ × Acceptance)) (first : ℕ) where
  each_theirs : (reports : List (ℕ × Acceptance)) → IsDistinct nat_eq (keys_of entries) → Reported entries first reports → (report : ℕ × Acceptance) → Contains reports report
      → IsFrom first report.0 × (at entries report.0 ≡ Some report.1)
  each_theirs reports distinct (is, within) report has =
      let kept = subst (λ (l : List (ℕ × Acceptance)). Contains l report) is has in (
        (
          leb-true first report.0 (All-contains (λ (e : ℕ × Acceptance). leb first e.0 ≡ true) (filter (λ entry. leb first entry.0) entries) report (filter_passes (λ entry. leb first entry.0) entries) kept),
          All-contains (λ (report : ℕ × Acceptance). report.0 ≤ max_slot) reports report (All-from_recursion (λ (report : ℕ × Acceptance). report.0 ≤ max_slot) reports within) has,
        ),
        found entries report.0 report.1 distinct (was_in (λ entry. leb first entry.0) entries report kept),
      )

  -- the entries of a map that is sorted by slots
  pub reports_found : (reports : List (ℕ × Acceptance)) → IsSorted nat_cmp (keys_of entries) → IsDistinct nat_eq (keys_of entries) → Reported entries first reports
      → AreAcceptances (at entries) first reports
  reports_found reports sorted distinct reported = record {
    rising =
        let up = IsStrictlyIncreasing-from_distinct (keys_of entries) (IsNonDecreasingBy-from_sort (λ (x : ℕ). x) (keys_of entries) sorted) distinct in
        subst IsStrictlyIncreasing (sym (ap keys_of reported.0 ∙ keys_filtered (leb first) entries)) (IsStrictlyIncreasing-filter (leb first) (keys_of entries) up);
    theirs = λ k d within.
        each_theirs reports distinct reported (get_or reports k d) (Contains-get_or reports k d within);
    all = λ slot held from is.
        subst (λ (l : List (ℕ × Acceptance)). Contains l (slot, held)) (sym reported.0)
        (kept_in (λ entry. leb first entry.0) entries (slot, held) (le-leb first slot from.0) (found_in entries slot held is));
  }
