-- Behind all slots that a learner was told of each slot is free. So it cannot be that there is no prefix, or no free slot that
-- leaves so many free ones below it.
use Rattle.std.proofs.Common.{◌≡◌, ℕ, zero, suc, ◌+◌, ◌<◌, ◌≤◌, max, ◌⊎◌, ◌↔◌, inl, inr, Bool, true, false, cond, nat_eq, IsTrue, List, [], ◌∷◌, ◌++◌, length, slice_get, Some, None, refl, sym, ap, subst, ◌∙◌, eq-eqb, ne_eqb, arith}
use Rattle.std.specs.List.{Contains}
use Rattle.std.proofs.lemmas.Bool.{cases_lt, cases_eq}
use Rattle.std.proofs.lemmas.List.{length_push}
use Rattle.std.proofs.lemmas.Option.{same_Some}
use Rattle.ballots.specs.declared.value.Value.{Value}
use Rattle.ballots.specs.Majority.{tally}
use Rattle.ballots.proofs.CallerLemmas.{with_one}
use Rattle.learner.specs.Calls.{LearnerCall, Accepted, Decided, slot_of, IsLearned}
use Rattle.learner.specs.Votes.{IsDecidedOrChosen}
use Rattle.agreement_rules.specs.Views.{IsFree, IsFreeAfter, HasPrefix}
use Rattle.agreement_rules.proofs.Lists.{nothing_in, first_or_rest}

-- it cannot be that there is none
abbrev pub NotNone : Type 0 → Type 0
NotNone P = (P → ⊥) → ⊥

pub either : (P : Type 0) → NotNone (P ⊎ (P → ⊥))
either P none = none (inr (λ p. none (inl p)))

-- the learner's law that is used
abbrev pub DecidedOrChosen : Type 0
DecidedOrChosen = (members : ℕ) (calls : List LearnerCall) (slot : ℕ) (v : Value) → IsLearned members calls slot v → IsDecidedOrChosen members calls slot v

-- ---- behind all that was told

-- a slot behind all that the calls tell of
behind : List LearnerCall → ℕ
behind [] = 0
behind (call ∷ calls) = max (suc (slot_of call)) (behind calls)

before_behind : (calls : List LearnerCall) (call : LearnerCall) → Contains calls call → slot_of call < behind calls
unfolding behind
before_behind [] call has = absurd (nothing_in call has)
before_behind (first ∷ calls) call has = elim (first_or_rest first call calls has) as (λ _. slot_of call < behind (first ∷ calls)) [
  | inl same ↦ (let slots : slot_of call ≡ slot_of first = ap slot_of same in omega (arith, slots))
  | inr rest ↦ (let less : slot_of call < behind calls = before_behind calls call rest in omega (arith, less))
]

module _ (law : DecidedOrChosen) (members : ℕ) (calls : List LearnerCall) where
  free_behind : (slot : ℕ) → behind calls ≤ slot → IsFree members calls slot
  free_behind slot le value learned = elim (law members calls slot value learned) as (λ _. ⊥) [
    | inl decided ↦ (let less : slot < behind calls = before_behind calls (Decided slot value) decided in omega (arith, less, le))
    | inr chosen ↦ (let less : slot < behind calls = before_behind calls (Accepted chosen.member slot chosen.ballot value) chosen.proposed in omega (arith, less, le))
  ]

  -- ---- the prefix

  -- each of these values was learned, the first for slot 0
  abbrev AreLearned : List Value → Type 0
  AreLearned values = (slot : ℕ) (value : Value) → slice_get values slot ≡ Some value → IsLearned members calls slot value

  -- the place of what stands in a list with one more
  at_last : (values : List Value) (v : Value) (k : ℕ) (x : Value) → slice_get (values ++ v ∷ []) k ≡ Some x → (slice_get values k ≡ Some x) ⊎ ((k ≡ length values) × (v ≡ x))
  at_last [] v zero x is = inr (refl, same_Some v x is)
  at_last [] v (suc k) x is = absurd (let no : None ≡ Some x = is in cc)
  at_last (w ∷ values) v zero x is = inl is
  at_last (w ∷ values) v (suc k) x is = elim (at_last values v k x is) as (λ _. (slice_get (w ∷ values) (suc k) ≡ Some x) ⊎ ((suc k ≡ length (w ∷ values)) × (v ≡ x))) [
    | inl there ↦ inl there
    | inr last ↦ inr ((let place = last.0 in omega (arith, place)), last.1)
  ]

  one_more : (values : List Value) (v : Value) → AreLearned values → IsLearned members calls (length values) v → AreLearned (values ++ v ∷ [])
  one_more values v learned more slot value is = elim (at_last values v slot value is) as (λ _. IsLearned members calls slot value) [
    | inl there ↦ learned slot value there
    | inr last ↦ subst (λ (s : ℕ). IsLearned members calls s value) (sym last.0) (subst (IsLearned members calls (length values)) last.1 more)
  ]

  abbrev SomePrefix : Type 0
  SomePrefix = (values : List Value) × HasPrefix members calls values

  prefix_on : (steps : ℕ) (values : List Value) → AreLearned values → behind calls ≤ steps + length values → NotNone SomePrefix
  prefix_on zero values learned le none =
      none (values, record { learned = learned; gap = free_behind (length values) (omega (arith, le)) })
  prefix_on (suc steps) values learned le none =
      either ((v : Value) × IsLearned members calls (length values) v) (λ found. elim found as (λ _. ⊥) [
        | inl more ↦ prefix_on steps (values ++ more.0 ∷ []) (one_more values more.0 learned more.1)
            (let count : length (values ++ more.0 ∷ []) ≡ length values + 1 = length_push values more.0 in omega (arith, le, count)) none
        | inr no_more ↦ none (values, record { learned = learned; gap = λ v is. no_more (v, is) })
      ])

  pub some_prefix : NotNone SomePrefix
  some_prefix = prefix_on (behind calls) [] (λ slot value is. absurd (let no : None ≡ Some value = is in cc)) (omega arith)

  -- ---- a free slot

  -- the test tells of each slot below this one whether it is free
  abbrev Tells : ℕ → (ℕ → Bool) → Type 0
  Tells n is_free = (slot : ℕ) → slot < n → (IsTrue (is_free slot) ↔ IsFree members calls slot)

  abbrev SomeTest : ℕ → Type 0
  SomeTest n = (is_free : ℕ → Bool) × Tells n is_free

  tells_more : (n : ℕ) (p : ℕ → Bool) (b : Bool) → Tells n p → (IsTrue b ↔ IsFree members calls n) → Tells (suc n) (λ slot. cond (nat_eq slot n) b (p slot))
  tells_more n p b tells last slot within = elim (cases_eq slot n) as (λ _. (IsTrue (cond (nat_eq slot n) b (p slot)) ↔ IsFree members calls slot)) [
    | inl same ↦
        let is : cond (nat_eq slot n) b (p slot) ≡ b = ap (λ (t : Bool). cond t b (p slot)) (eq-eqb slot n same) in (
          λ passes. subst (IsFree members calls) (sym same) (last.0 (sym is ∙ passes)),
          λ free. is ∙ last.1 (subst (IsFree members calls) same free),
        )
    | inr apart ↦
        let is : cond (nat_eq slot n) b (p slot) ≡ p slot = ap (λ (t : Bool). cond t b (p slot)) (ne_eqb slot n apart) in
        let before = tells slot (omega (arith, within, apart)) in
        (λ passes. before.0 (sym is ∙ passes), λ free. is ∙ before.1 free)
  ]

  some_test : (n : ℕ) → NotNone (SomeTest n)
  some_test zero none = none ((λ slot. false), λ slot within. absurd (omega (arith, within)))
  some_test (suc n) none =
      some_test n (λ test. either (IsFree members calls n) (λ found. elim found as (λ _. ⊥) [
        | inl free ↦ none ((λ slot. cond (nat_eq slot n) true (test.0 slot)), tells_more n test.0 true test.1 ((λ passes. free), λ is. refl))
        | inr held ↦ none ((λ slot. cond (nat_eq slot n) false (test.0 slot)), tells_more n test.0 false test.1 ((λ passes. absurd (let no : false ≡ true = passes in cc)), λ is. absurd (held is)))
      ]))

  -- the slots from this one on all count
  counts_step : (n start : ℕ) (p : ℕ → Bool) (b : Bool) → p n ≡ b → (start ≤ n → b ≡ true) → n ≤ start + tally n p → suc n ≤ start + with_one b (tally n p)
  counts_step n start p true is passes le = omega (arith, le)
  counts_step n start p false is passes le = elim (cases_lt n start) as (λ _. suc n ≤ start + tally n p) [
    | inl lt ↦ omega (arith, lt)
    | inr ge ↦ absurd (let no : false ≡ true = passes ge in cc)
  ]

  counts_from : (n start : ℕ) (p : ℕ → Bool) → ((slot : ℕ) → start ≤ slot → slot < n → p slot ≡ true) → n ≤ start + tally n p
  counts_from zero start p each = omega arith
  counts_from (suc n) start p each =
      counts_step n start p (p n) refl (λ le. each n le (omega arith)) (counts_from n start p (λ slot le within. each slot le (omega (arith, within))))

  -- where more are counted than this, one has so many below it
  pub record CountedAt (n count : ℕ) (p : ℕ → Bool) : Type 0 where
    pub slot : ℕ
    pub within : slot < n
    pub counts : p slot ≡ true
    pub below : tally slot p ≡ count

  later : (n count : ℕ) (p : ℕ → Bool) → CountedAt n count p → CountedAt (suc n) count p
  later n count p is = record { slot = is.slot; within = (let lt = is.within in omega (arith, lt)); counts = is.counts; below = is.below }

  counted_step : (n count : ℕ) (p : ℕ → Bool) (b : Bool) → p n ≡ b → count < with_one b (tally n p) → (count < tally n p → CountedAt n count p) → CountedAt (suc n) count p
  counted_step n count p true is more rest = elim (cases_lt count (tally n p)) as (λ _. CountedAt (suc n) count p) [
    | inl lt ↦ later n count p (rest lt)
    | inr ge ↦ record { slot = n; within = omega arith; counts = is; below = omega (arith, more, ge) }
  ]
  counted_step n count p false is more rest = later n count p (rest more)

  counted_at : (n count : ℕ) (p : ℕ → Bool) → count < tally n p → CountedAt n count p
  counted_at zero count p more = absurd (omega (arith, more))
  counted_at (suc n) count p more = counted_step n count p (p n) refl more (counted_at n count p)

  abbrev SomeFreeSlot : ℕ → Type 0
  SomeFreeSlot count = (slot : ℕ) × IsFreeAfter members calls count slot

  free_slot_by : (count n : ℕ) → n ≡ suc (behind calls + count) → SomeTest n → SomeFreeSlot count
  free_slot_by count n is test =
      let many : n ≤ behind calls + tally n test.0 =
      counts_from n (behind calls) test.0 (λ slot le within. (test.1 slot within).1 (free_behind slot le)) in
      let found : CountedAt n count test.0 = counted_at n count test.0 (omega (arith, many, is)) in (
        found.slot,
        record {
          free = (test.1 found.slot found.within).0 found.counts;
          is_free = test.0;
          tells = λ other lower. test.1 other (let lt = found.within in omega (arith, lt, lower));
          below = found.below;
        },
      )

  pub some_free_slot : (count : ℕ) → NotNone (SomeFreeSlot count)
  some_free_slot count none = some_test (suc (behind calls + count)) (λ test. none (free_slot_by count (suc (behind calls + count)) refl test))
