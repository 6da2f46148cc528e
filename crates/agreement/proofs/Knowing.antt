-- What a node has learned, as its log has it.
use Rattle.std.proofs.Common.{◌≡◌, ◌↔◌, inl, inr, ℕ, ◌<◌, ◌≤◌, Option, None, Some, is_some, IsSome, IfSome, Bool, true, false, not, IsTrue, List, length, slice_get, Bor, refl, sym, ap, ◌∙◌, arith}
use Rattle.std.specs.Option.{MatchOption, option_map}
use Rattle.std.proofs.lemmas.Bool.{cases_lt}
use Rattle.std.proofs.lemmas.Option.{slice_get_cases, slice_get_within}
use Rattle.ballots.specs.Limits.{max_slot}
use Rattle.ballots.specs.declared.value.Value.{Value}
use Rattle.learner.specs.Calls.{LearnerCall, IsLearned}
use Rattle.learner.specs.State.{LearnerState, decided_at as learned_at}
use Rattle.learner.specs.Learned.{StateAfter as LearnerAfter, HasLearned}
use Rattle.decided_log.specs.Decided.{IsPrefix, IsKnownBehind}
use Rattle.decided_log.specs.LogState.{decided_at}
use Rattle.agreement_rules.specs.Views.{Views, IsFree, HasPrefix, HasGap}
use Rattle.agreement.specs.State.{AgreementState, Has}

-- ---- of calls, by a look-up that has what was learned of them

none_held : (o : Option Value) → ((v : Value) → o ≡ Some v → ⊥) → o ≡ None
none_held None free = refl
none_held (Some v) free = absurd (free v refl)

nothing_there : (v : Value) → None ≡ Some v → ⊥
nothing_there v e = cc

module _ (members : ℕ) (told : List LearnerCall) (at : ℕ → Option Value) (has : HasLearned members told at) where
  pub free_of_none : (slot : ℕ) → at slot ≡ None → IsFree members told slot
  free_of_none slot none value learned = nothing_there value (sym none ∙ (has slot value).1 learned)

  pub none_of_free : (slot : ℕ) → IsFree members told slot → at slot ≡ None
  none_of_free slot free = none_held (at slot) (λ value e. free value ((has slot value).0 e))

  pub prefix_of_known : (values : List Value) → IsPrefix at values → HasPrefix members told values
  prefix_of_known values is = record {
    learned = λ slot value e. (has slot value).0 (is.held slot (slice_get_within values slot value e) ∙ e);
    gap = free_of_none (length values) is.gap;
  }

  pub known_of_prefix : (values : List Value) → HasPrefix members told values → IsPrefix at values
  known_of_prefix values prefix = record {
    held = λ slot within. elim (slice_get_cases values slot).1 as (λ _. at slot ≡ slice_get values slot) [
      | inl there ↦ (has slot there.0).1 (prefix.learned slot there.0 there.2) ∙ sym there.2
      | inr past ↦ absurd (omega (arith, past.0, within))
    ];
    gap = none_of_free (length values) prefix.gap;
  }

  pub gap_where_known : (first : ℕ) → IsKnownBehind at first ↔ HasGap members told first
  gap_where_known first = (
    λ known. (known.0, known.1, known.2, (has known.0 known.1).0 known.3),
    λ gap. (gap.0, gap.1, gap.2, (has gap.0 gap.1).1 gap.3),
  )

-- ---- of a node

-- a state has learned just what its calls made it learn
abbrev pub LearnsJust : Type 0
LearnsJust = (members : ℕ) (calls : List LearnerCall) (state : LearnerState) (slot : ℕ) (v : Value) → LearnerAfter members calls state
    → learned_at state slot ≡ Some v ↔ IsLearned members calls slot v

-- what is known has one prefix
abbrev pub OnePrefix : Type 0
OnePrefix = (at : ℕ → Option Value) (xs ys : List Value) → IsPrefix at xs → IsPrefix at ys → xs ≡ ys

module _ (just : LearnsJust) (state : AgreementState) (views : Views) (has : Has state views) where
  pub learner_knows : HasLearned state.config.members views.learner_calls (learned_at state.learner)
  learner_knows slot value = just state.config.members views.learner_calls state.learner slot value has.learner_calls

  pub log_knows : HasLearned state.config.members views.learner_calls (decided_at state.log)
  log_knows slot value = (λ e. (learner_knows slot value).0 (sym (has.logged slot) ∙ e), λ learned. has.logged slot ∙ (learner_knows slot value).1 learned)

  pub prefix_has : (values : List Value) → IsPrefix (decided_at state.log) values → HasPrefix state.config.members views.learner_calls values
  prefix_has values is = prefix_of_known state.config.members views.learner_calls (decided_at state.log) log_knows values is

  -- it is no longer than there are slots
  pub prefix_within : (values : List Value) → IsPrefix (decided_at state.log) values → length values ≤ state.config.slot_limit
  prefix_within values is = elim (cases_lt state.config.slot_limit (length values)) as (λ _. length values ≤ state.config.slot_limit) [
    | inl longer ↦ elim (slice_get_cases values state.config.slot_limit).1 as (λ _. length values ≤ state.config.slot_limit) [
      | inl there ↦
          absurd (nothing_there there.0 (sym (has.logged state.config.slot_limit ∙ has.beyond state.config.slot_limit (omega arith)) ∙ is.held state.config.slot_limit longer ∙ there.2))
      | inr past ↦ past.0
    ]
    | inr within ↦ within
  ]

  pub has_gap_where : (values : List Value) (r : Bool) → ((prefix : List Value) → IsPrefix (decided_at state.log) prefix → IsTrue r ↔ IsKnownBehind (decided_at state.log) (length prefix))
      → HasPrefix state.config.members views.learner_calls values → IsTrue r ↔ HasGap state.config.members views.learner_calls (length values)
  has_gap_where values r tells prefix =
      let known = tells values (known_of_prefix state.config.members views.learner_calls (decided_at state.log) log_knows values prefix) in
      let gap = gap_where_known state.config.members views.learner_calls (decided_at state.log) log_knows (length values) in
      (λ t. gap.0 (known.0 t), λ g. known.1 (gap.1 g))

  -- ---- look-ups

  pub learned_where : (slot : ℕ) (r : Option (Bor Value)) → option_map (λ v. v.now) r ≡ learned_at state.learner slot
      → MatchOption r (IsFree state.config.members views.learner_calls slot) (λ v. IsLearned state.config.members views.learner_calls slot v.now)
  learned_where slot None is = free_of_none state.config.members views.learner_calls (learned_at state.learner) learner_knows slot (sym is)
  learned_where slot (Some v) is = (learner_knows slot v.now).0 (sym is)

  -- the first slot behind the prefix, of which there is one number
  module _ (one : OnePrefix) (prefix values : List Value) (is : IsPrefix (decided_at state.log) prefix) (has-prefix : HasPrefix state.config.members views.learner_calls values) where
    same_length : length values ≡ length prefix
    same_length = ap length (one (decided_at state.log) values prefix (known_of_prefix state.config.members views.learner_calls (decided_at state.log) log_knows values has-prefix) is)

    pub all_learned : state.config.slot_limit ≤ length prefix → length values ≡ state.config.slot_limit
    all_learned all = omega (arith, same_length, prefix_within prefix is, all)

    pub first_free_is : (r : Option ℕ) (n : ℕ) → n ≡ length prefix → length prefix < state.config.slot_limit → (IsSome r ↔ (n ≤ max_slot)) → IfSome r (λ slot. slot ≡ n)
        → MatchOption r (length values ≡ state.config.slot_limit) (λ slot. (slot ≡ length values) × (slot < state.config.slot_limit))
    first_free_is None n at within some is-n =
        let no : false ≡ true = some.1 (omega (arith, at, within, has.slots)) in absurd cc
    first_free_is (Some slot) n at within some is-n = (is-n ∙ at ∙ sym same_length, omega (arith, is-n, at, within))

pub free_where : (members : ℕ) (told : List LearnerCall) (slot : ℕ) (r : Option (Bor Value)) (b : Bool)
    → MatchOption r (IsFree members told slot) (λ v. IsLearned members told slot v.now) → is_some r ≡ not b → IsTrue b ↔ IsFree members told slot
free_where members told slot None true free is = (λ t. free, λ f. refl)
free_where members told slot None false free is = absurd cc
free_where members told slot (Some v) true learned is = absurd cc
free_where members told slot (Some v) false learned is = (λ t. (let e : false ≡ true = t in absurd cc), λ free. absurd (free v.now learned))
