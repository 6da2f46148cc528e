-- By which values a prefix grows.
use Rattle.std.proofs.Common.{◌≡◌, ◌≢◌, ◌↔◌, ℕ, ◌+◌, ◌-◌, ◌<◌, ◌≤◌, nat_eq, Bool, true, false, IsTrue, not, eq-eqb, List, [], ◌∷◌, ◌++◌, length, slice_get, Option, Some, None, refl, sym, ◌∙◌, ap, subst, arith, inl, inr, suc, length-append}
use Rattle.std.specs.Map.{lookup}
use Rattle.std.proofs.lemmas.Map.Entries.{lookup_head}
use Rattle.std.proofs.lemmas.Option.{slice_get_past, slice_get_cases}
use Rattle.std.proofs.lemmas.List.{append-nil}
use Rattle.std.proofs.lemmas.Bool.{cases_lt}
use Rattle.std.proofs.lemmas.Bool.Decides.{eqb_tells}
use Rattle.ballots.specs.declared.value.Value.{Value}
use Rattle.decided_log.specs.Decided.{Inserts, IsPrefix, IsKnownBehind}
use Rattle.decided_log.specs.LogState.{found}
use Rattle.decided_log.specs.Keeping.{IsKept, grown_at}
use Rattle.decided_log.proofs.Lookups.{one_prefix}

-- the elements of one list, and behind them those of another
append_left : (xs ys : List Value) (slot : ℕ) → slot < length xs → slice_get (xs ++ ys) slot ≡ slice_get xs slot
append_left [] ys slot within = absurd (omega arith)
append_left (x ∷ xs) ys Prim.Native.Nat.zero within = refl
append_left (x ∷ xs) ys (suc slot) within = append_left xs ys slot (omega arith)

append_right : (xs ys : List Value) (slot k : ℕ) → slot ≡ length xs + k → slice_get (xs ++ ys) slot ≡ slice_get ys k
append_right [] ys slot k at = ap (slice_get ys) (omega arith)
append_right (x ∷ xs) ys Prim.Native.Nat.zero k at = absurd (omega arith)
append_right (x ∷ xs) ys (suc slot) k at = append_right xs ys slot k (omega arith)

-- the first part of what is kept is the prefix
pub kept_prefix : (prefix : List Value) (later : List (ℕ × Value)) (capacity : ℕ) → IsKept prefix later capacity → IsPrefix (found prefix later) prefix
kept_prefix prefix later capacity kept = record {
  held = λ slot within. elim (slice_get_cases prefix slot).1 [
    | inl there ↦ rw there.2 refl
    | inr past ↦ absurd (omega arith)
  ];
  gap = rw (slice_get_past prefix (length prefix) (omega arith), kept.gap) refl;
}

-- an insert elsewhere leaves the prefix
pub elsewhere : (at after : ℕ → Option Value) (prefix : List Value) (slot : ℕ) (value : Value) → slot ≢ length prefix → IsPrefix at prefix → Inserts at after slot value → IsPrefix after (prefix ++ [])
elsewhere at after prefix slot value apart is step = rw append-nil (record {
  held = λ other within. elim (eqb_tells other slot) [
    | inl here ↦ elim (slice_get_cases prefix other).1 [
      | inl there ↦ (let was : at slot ≡ slice_get prefix other = rw (← here.1) (is.held other within) in rw (here.1, step.kept, was) (let some = there.2 in rw (← here.1, some) refl))
      | inr past ↦ absurd (omega arith)
    ]
    | inr differs ↦ step.others other differs.1 ∙ is.held other within
  ];
  gap = step.others (length prefix) (λ same. apart (sym same)) ∙ is.gap;
})

-- an insert at the prefix's end grows it by the value and those that follow
module _ (prefix : List Value) (later : List (ℕ × Value)) (value : Value) (gap : lookup (nat_eq (length prefix)) later ≡ None) (after : ℕ → Option Value) (step : Inserts (found prefix later) after (length prefix) value) where
  end_at : (slot : ℕ) → length prefix ≤ slot → slice_get prefix slot ≡ None
  end_at slot past = slice_get_past prefix slot past

  stands_here : after (length prefix) ≡ Some value
  stands_here = rw (step.kept, end_at (length prefix) (omega arith), gap) refl

  stands : (slot k : ℕ) → slot ≡ length prefix + k → after slot ≡ grown_at later (length prefix) value k
  stands slot Prim.Native.Nat.zero at = let here : slot ≡ length prefix = omega arith in rw here stands_here
  stands slot (suc k) at =
      let differs : slot ≢ length prefix = omega arith in
      rw (step.others slot differs, end_at slot (omega arith), at) refl

  pub at_end : (values : List Value) → IsPrefix (grown_at later (length prefix) value) values → IsPrefix after (prefix ++ values)
  at_end values is = record {
    held = λ slot within. elim (cases_lt slot (length prefix)) [
      | inl before ↦
          let differs : slot ≢ length prefix = omega arith in
          (step.others slot differs ∙ (elim (slice_get_cases prefix slot).1 [ inl there ↦ rw there.2 refl | inr past ↦ absurd (omega arith) ])) ∙ sym (append_left prefix values slot before)
      | inr behind ↦
          let k : ℕ = slot - length prefix in
          let at : slot ≡ length prefix + (slot - length prefix) = omega arith in
          let inside : slot - length prefix < length values = omega (arith, length-append prefix values) in
          stands slot (slot - length prefix) at ∙ is.held (slot - length prefix) inside ∙ sym (append_right prefix values slot (slot - length prefix) at)
    ];
    gap = stands (length (prefix ++ values)) (length values) (length-append prefix values) ∙ is.gap;
  }

-- the same of every prefix that there is
pub gained : (prefix : List Value) (later later-now : List (ℕ × Value)) (capacity slot : ℕ) (value : Value) → IsKept prefix later capacity → later-now ≡ later → slot ≡ length prefix → (values : List Value) → IsPrefix (grown_at later-now slot value) values
    → (before : List Value) → IsPrefix (found prefix later) before → (after : ℕ → Option Value) → Inserts (found prefix later) after slot value → IsPrefix after (before ++ values)
gained prefix later later-now capacity slot value kept unchanged at values is before is_before after step =
    let same : prefix ≡ before = one_prefix (found prefix later) prefix before (kept_prefix prefix later capacity kept) is_before in
    subst (λ p. IsPrefix after (p ++ values)) same
    (at_end prefix later value kept.gap after (subst (λ n. Inserts (found prefix later) after n value) at step) values
    (subst (λ l. IsPrefix (grown_at l (length prefix) value) values) unchanged (subst (λ n. IsPrefix (grown_at later-now n value) values) at is)))

-- likewise elsewhere
pub gained_none : (prefix : List Value) (later : List (ℕ × Value)) (capacity slot : ℕ) (value : Value) → IsKept prefix later capacity → slot ≢ length prefix → (before : List Value) → IsPrefix (found prefix later) before → (after : ℕ → Option Value) → Inserts (found prefix later) after slot value → IsPrefix after (before ++ [])
gained_none prefix later capacity slot value kept apart before is_before after step =
    let same : prefix ≡ before = one_prefix (found prefix later) prefix before (kept_prefix prefix later capacity kept) is_before in
    let differs : slot ≢ length before = subst (λ p. slot ≢ length p) same apart in
    elsewhere (found prefix later) after before slot value differs is_before step

-- every prefix that there is ends there
pub ends_there : (prefix : List Value) (later : List (ℕ × Value)) (capacity slot : ℕ) → IsKept prefix later capacity → slot ≡ length prefix → (before : List Value) → IsPrefix (found prefix later) before → slot ≡ length before
ends_there prefix later capacity slot kept at before is_before =
    at ∙ ap length (one_prefix (found prefix later) prefix before (kept_prefix prefix later capacity kept) is_before)

-- ---- what is known behind a prefix

-- nothing stands behind the first part
none_behind : (prefix : List Value) → IsKnownBehind (found prefix []) (length prefix) → ⊥
none_behind prefix (other, value, behind, is) =
    let none : found prefix [] other ≡ None = rw (slice_get_past prefix other (omega (arith, behind))) refl in
    let no : Some value ≡ None = sym is ∙ none in cc

-- the first of what stands there
first_behind : (prefix : List Value) (e : ℕ × Value) (later : List (ℕ × Value)) (capacity : ℕ) → IsKept prefix (e ∷ later) capacity → IsKnownBehind (found prefix (e ∷ later)) (length prefix)
first_behind prefix e later capacity kept =
    let here : lookup (nat_eq e.0) (e ∷ later) ≡ Some e.1 = lookup_head (nat_eq e.0) e later (eq-eqb e.0 e.0 refl) in
    let apart : e.0 ≢ length prefix = λ same. (let no : Some e.1 ≡ None = sym here ∙ ap (λ (slot : ℕ). lookup (nat_eq slot) (e ∷ later)) same ∙ kept.gap in cc) in
    let within = (kept.joinable.behind e.0 e.1 here).0 in
    (e.0, e.1, omega (arith, apart, within), rw (slice_get_past prefix e.0 within) here)

behind_first : (prefix : List Value) (later : List (ℕ × Value)) (capacity : ℕ) (empty : Bool) → IsKept prefix later capacity → (IsTrue empty ↔ (length later ≡ 0))
    → IsTrue (not empty) ↔ IsKnownBehind (found prefix later) (length prefix)
behind_first prefix [] capacity true kept is = (λ t. absurd (let no : false ≡ true = t in cc), λ known. absurd (none_behind prefix known))
behind_first prefix [] capacity false kept is = absurd (let no : false ≡ true = is.1 refl in cc)
behind_first prefix (e ∷ later) capacity true kept is = absurd (let no = is.0 refl in omega (arith, no))
behind_first prefix (e ∷ later) capacity false kept is = (λ t. first_behind prefix e later capacity kept, λ known. refl)

-- the same of every prefix that there is
pub known_behind : (prefix : List Value) (later : List (ℕ × Value)) (capacity : ℕ) (empty : Bool) → IsKept prefix later capacity → (IsTrue empty ↔ (length later ≡ 0))
    → (before : List Value) → IsPrefix (found prefix later) before → IsTrue (not empty) ↔ IsKnownBehind (found prefix later) (length before)
known_behind prefix later capacity empty kept is before is_before =
    subst (λ (p : List Value). IsTrue (not empty) ↔ IsKnownBehind (found prefix later) (length p))
    (one_prefix (found prefix later) prefix before (kept_prefix prefix later capacity kept) is_before) (behind_first prefix later capacity empty kept is)
