-- What a node has learned has one prefix, and its uploads are one list.
use Rattle.std.proofs.Common.{◌≡◌, inl, inr, ℕ, ◌<◌, ◌≤◌, Option, None, Some, List, length, slice_get, refl, sym, ap, subst, ◌∙◌, arith}
use Rattle.std.proofs.lemmas.Bool.{cases_lt}
use Rattle.std.proofs.lemmas.Option.{slice_get_cases}
use Rattle.ballots.specs.declared.value.Value.{Value}
use Rattle.learner.specs.Calls.{LearnerCall, IsLearned}
use Rattle.decided_log.specs.Decided.{IsPrefix}
use Rattle.table_types.specs.Uploads.{Upload}
use Rattle.table_versions.specs.Values.{AreUploadsIn}
use Rattle.agreement_rules.specs.Views.{HasPrefix}
use Rattle.histories.specs.Texts.{HasUploads}

-- what is known has one prefix
abbrev pub OnePrefix : Type 0
OnePrefix = (at : ℕ → Option Value) (xs ys : List Value) → IsPrefix at xs → IsPrefix at ys → xs ≡ ys

-- a slot learns one value
abbrev pub OneLearned : Type 0
OneLearned = (members : ℕ) (calls : List LearnerCall) (slot : ℕ) (v w : Value) → IsLearned members calls slot v → IsLearned members calls slot w → v ≡ w

module _ (members : ℕ) (told : List LearnerCall) where
  -- none is longer than another
  no_longer : (xs ys : List Value) → HasPrefix members told xs → HasPrefix members told ys → length ys ≤ length xs
  no_longer xs ys of-xs of-ys = elim (cases_lt (length xs) (length ys)) as (λ _. length ys ≤ length xs) [
    | inl longer ↦ elim (slice_get_cases ys (length xs)).1 as (λ _. length ys ≤ length xs) [
      | inl there ↦ absurd (of-xs.gap there.0 (of-ys.learned (length xs) there.0 there.2))
      | inr past ↦ past.0
    ]
    | inr within ↦ within
  ]

  same_at : OneLearned → (xs ys : List Value) → HasPrefix members told xs → HasPrefix members told ys → (slot : ℕ) → slot < length ys → slice_get xs slot ≡ slice_get ys slot
  same_at one xs ys of-xs of-ys slot within =
      let short = no_longer xs ys of-xs of-ys in
      elim (slice_get_cases xs slot).1 as (λ _. slice_get xs slot ≡ slice_get ys slot) [
        | inl there ↦ elim (slice_get_cases ys slot).1 as (λ _. slice_get xs slot ≡ slice_get ys slot) [
          | inl other ↦ there.2 ∙ ap (λ (v : Value). Some v) (one members told slot there.0 other.0 (of-xs.learned slot there.0 there.2) (of-ys.learned slot other.0 other.2)) ∙ sym other.2
          | inr past ↦ absurd (omega (arith, past.0, within))
        ]
        | inr past ↦ absurd (omega (arith, past.0, within, short))
      ]

  -- behind the end there is nothing
  at_end : (xs : List Value) (n : ℕ) → length xs ≤ n → slice_get xs n ≡ None
  at_end xs n le = elim (slice_get_cases xs n).1 as (λ _. slice_get xs n ≡ None) [
    | inl there ↦ absurd (omega (arith, there.1, le))
    | inr past ↦ past.1
  ]

  pub prefix_is_one : OnePrefix → OneLearned → (xs ys : List Value) → HasPrefix members told xs → HasPrefix members told ys → xs ≡ ys
  prefix_is_one one learned xs ys of-xs of-ys = one (slice_get xs) xs ys
      (record { held = λ slot within. refl; gap = at_end xs (length xs) (omega arith) })
      (record { held = same_at learned xs ys of-xs of-ys; gap = at_end xs (length ys) (no_longer ys xs of-ys of-xs) })

-- uploads of its prefix are those of any values that are its prefix
pub same_uploads : OnePrefix → OneLearned → (members : ℕ) (told : List LearnerCall) (values : List Value) (uploads : List Upload)
    → HasPrefix members told values → HasUploads members told uploads → AreUploadsIn values uploads
same_uploads one learned members told values uploads prefix of =
    subst (λ (vs : List Value). AreUploadsIn vs uploads) (prefix_is_one members told one learned of.values values of.prefix prefix) of.are
