-- What is due to an upload that a client hands in.
use Rattle.std.proofs.Common.{◌≡◌, ◌↔◌, inl, inr, ℕ, ◌<◌, Bool, true, false, IsTrue, Option, None, Some, List, length, refl, sym, subst, ◌∙◌}
use Rattle.std.specs.List.{Contains}
use Rattle.std.specs.Option.{MatchOption, is_some}
use Rattle.ballots.specs.declared.value.Value.{Value}
use Rattle.table_types.specs.Uploads.{Upload}
use Rattle.table_types.specs.Texts.{IsTextOf, IsUploadText}
use Rattle.table_types.specs.Tables.{outcome_of, unknown}
use Rattle.table_versions.specs.declared.outcome.Outcome as told_type
use Rattle.table_versions.specs.declared.outcome.Outcome.TheVariants.{Applied, SchemaMismatch, Conflict, Unknown}
use Rattle.table_versions.specs.Outcomes.{told}
use Rattle.table_versions.specs.State.{HasTaken}
use Rattle.table_versions.specs.Values.{AreUploadsIn}
use Rattle.agreement_rules.specs.Views.{Views, HasPrefix}
use Rattle.histories.specs.Texts.{HasUploads}
use Rattle.agreement_rules.specs.Due.{quietly}
use Rattle.histories.specs.Due.{Put, waits_too}
use Rattle.agreement.specs.declared.refusal.Refusal.TheVariants.{SlotsSpent, OutOfMemory}
use Rattle.agreement.specs.State.{Has}
use Rattle.node_core.specs.declared.plan.Planned.TheVariants.{Stays, Waits}
use Rattle.node_core.specs.State.{NodeState, NodeHas}
use Rattle.node_core.specs.Plans.{TellsKnown, IsPlanned, IsRefused}

-- ---- whether it is known

abbrev pub Tells : NodeState → List ℕ → told_type.Outcome → Type 0
Tells state text said = (values : List Value) (uploads : List Upload) (upload : Upload) → HasTaken state.tables values
    → AreUploadsIn values uploads → IsTextOf text upload → told said ≡ outcome_of uploads upload

module _ (state : NodeState) (views : Views) (has : NodeHas state views) (text : List ℕ) where
  uploads_of : HasUploads state.agreement.config.members views.learner_calls has.taken.uploads
  uploads_of = record { values = has.values; prefix = has.prefix; are = has.taken.are }

  pub is_unknown : (waits : Bool) → (IsTrue waits ↔ Contains state.waiting.texts text) → waits ≡ false → IsUploadText text
      → (said : told_type.Outcome) → Tells state text said → said ≡ Unknown
      → TellsKnown state.agreement.config views text false
  is_unknown waits iff fails (upload, is) said tells nothing = (
    (λ waiting. let holds : waits ≡ true = iff.1 (subst (λ (l : List (List ℕ)). Contains l text) (sym has.waits) waiting) in cc),
    (
      upload,
      has.taken.uploads,
      is,
      uploads_of,
      sym (tells has.values has.taken.uploads upload has.taken has.taken.are is) ∙ subst (λ (o : told_type.Outcome). told o ≡ unknown) (sym nothing) refl,
    ),
  )

  something : (said : told_type.Outcome) → (said ≡ Unknown → ⊥) → told said ≡ unknown → ⊥
  something (Applied version) more is = cc
  something SchemaMismatch more is = cc
  something Conflict more is = cc
  something Unknown more is = more refl

  pub is_known : IsUploadText text → (said : told_type.Outcome) → Tells state text said → (said ≡ Unknown → ⊥)
      → TellsKnown state.agreement.config views text true
  is_known (upload, is) said tells more =
      inr (
        upload,
        has.taken.uploads,
        is,
        uploads_of,
        (λ nothing. something said more (tells has.values has.taken.uploads upload has.taken has.taken.are is ∙ nothing)),
      )

-- ---- what is due

abbrev pub Knows : NodeState → List ℕ → Bool → Type 0
Knows state text answer = (views : Views) → NodeHas state views → TellsKnown state.agreement.config views text answer

-- the first free slot, where there is one
abbrev pub IsFirstFree : NodeState → Option ℕ → Type 0
IsFirstFree state slot = (views : Views) (values : List Value) → Has state.agreement views
    → HasPrefix state.agreement.config.members views.learner_calls values
    → MatchOption slot (length values ≡ state.agreement.config.slot_limit)
    (λ s. (s ≡ length values) × (s < state.agreement.config.slot_limit))

none_free : (slot : Option ℕ) (n limit : ℕ) → is_some slot ≡ false → MatchOption slot (n ≡ limit) (λ s. (s ≡ n) × (s < limit)) → n ≡ limit
none_free None n limit is first = first
none_free (Some s) n limit is first = absurd (cc)

some_free : (slot : Option ℕ) (n limit : ℕ) → is_some slot ≡ true → MatchOption slot (n ≡ limit) (λ s. (s ≡ n) × (s < limit)) → n < limit
some_free None n limit is first = absurd (cc)
some_free (Some s) n limit is first = subst (λ (k : ℕ). k < limit) first.0 first.1

pub stays_planned : (state : NodeState) (text : List ℕ) (answer : Bool) → Knows state text answer → answer ≡ true
    → (views : Views) → NodeHas state views → IsPlanned state views (Put text) Stays
stays_planned state text answer knows holds views has = record {
  plan = quietly views;
  due = inl (subst (TellsKnown state.agreement.config views text) holds (knows views has), refl);
  kept = refl;
  sends = refl;
  leads = refl;
}

pub spent_refused : (state : NodeState) (text : List ℕ) (answer : Bool) → Knows state text answer → answer ≡ false
    → (slot : Option ℕ) → IsFirstFree state slot → is_some slot ≡ false → (views : Views) → NodeHas state views
    → IsRefused state views (Put text) SlotsSpent
spent_refused state text answer knows fails slot first none views has =
    let new = subst (TellsKnown state.agreement.config views text) fails (knows views has) in (
      refl,
      new.0,
      new.1,
      (
        has.values,
        has.prefix,
        none_free slot (length has.values) state.agreement.config.slot_limit none (first views has.values has.agrees has.prefix),
      ),
    )

module _ (state : NodeState) (text : List ℕ) (answer : Bool) (knows : Knows state text answer) (fails : answer ≡ false) (slot : Option ℕ) (first : IsFirstFree state slot) (some : is_some slot ≡ true) (views : Views) (has : NodeHas state views) where
  pub waits_planned : IsPlanned state views (Put text) (Waits text)
  waits_planned =
      let new = subst (TellsKnown state.agreement.config views text) fails (knows views has) in
      record {
        plan = quietly (waits_too views text);
        due = inr (
          new.0,
          new.1,
          (
            has.values,
            has.prefix,
            some_free slot (length has.values) state.agreement.config.slot_limit some (first views has.values has.agrees has.prefix),
          ),
          refl,
        );
        kept = refl;
        sends = refl;
        leads = (new.1, refl);
      }

  pub memory_refused : IsRefused state views (Put text) OutOfMemory
  memory_refused = let planned = waits_planned in (planned.plan, planned.due)
