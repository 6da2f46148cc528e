-- It cannot be that nothing is due to an input, where a history left the node as it is.
use Rattle.std.proofs.Common.{◌≡◌, ℕ, ◌≤◌, ◌⊎◌, inl, inr, List, [], ◌∷◌, length, map, refl, subst, arith}
use Rattle.std.specs.List.{Contains}
use Rattle.std.proofs.lemmas.Bool.{cases_lt}
use Rattle.std.proofs.lemmas.Option.{slice_get_cases}
use Rattle.ballots.specs.declared.value.Value.{Value}
use Rattle.ballots.specs.declared.message.Message.{Message}
use Rattle.ballots.specs.declared.message.Body.{Body}
use Rattle.ballots.specs.declared.message.Body.TheVariants as body
use Rattle.ballots.specs.Message.{value_bytes}
use Rattle.learner.specs.Calls.{LearnerCall, slot_of, IsLearned}
use Rattle.learner.specs.Calls as learner
use Rattle.table_types.specs.Uploads.{Upload}
use Rattle.table_types.specs.Tables.{outcome_of, unknown}
use Rattle.agreement_rules.specs.Views.{AgreementConfig, Views, with_waiting, IsFree, HasPrefix}
use Rattle.agreement_rules.specs.Due.{Plan, Due, Refuses, Plans, SlotsSpent, OutOfRange, quietly, also_learns, IsMessageOf, has_seen, TickIsDue, PartIsDue}
use Rattle.histories.specs.Texts.{IsTextOf, IsUploadText, AreUploadsOf, HasUploads}
use Rattle.histories.specs.Due.{Input, Put, Tick, Deliver, Waits, waits_too, AreStillWaiting, LearnsOf, BodyIsDue, IsDue, IsWellFormed}
use Rattle.histories.proofs.Lists.{in_front, behind_front}
use Rattle.histories.proofs.Learners.{LearnerLaw}
use Rattle.histories.proofs.Within.{IsSound}

-- it cannot be that there is none
abbrev NotNone : Type 0 → Type 0
NotNone X = (X → ⊥) → ⊥

either : (X : Type 0) → NotNone (X ⊎ (X → ⊥))
either X none = none (inr (λ x. none (inl x)))

-- ---- uploads

some_uploads : (texts : List (List ℕ)) → NotNone ((uploads : List Upload) × AreUploadsOf texts uploads)
some_uploads [] none = none ([], refl)
some_uploads (text ∷ texts) none =
    some_uploads texts (λ rest. either (IsUploadText text) (λ which. none (with_text text texts rest which)))
  where
    with_text : (text : List ℕ) (texts : List (List ℕ)) → (uploads : List Upload) × AreUploadsOf texts uploads → IsUploadText text ⊎ (IsUploadText text → ⊥)
        → (uploads : List Upload) × AreUploadsOf (text ∷ texts) uploads
    with_text text texts (uploads, are) (inl (upload, is)) = (upload ∷ uploads, inl (upload, uploads, is, refl, are))
    with_text text texts (uploads, are) (inr not) = (uploads, inr (not, are))

-- what still waits of texts that are uploads
some_wait : (uploads : List Upload) (texts : List (List ℕ)) → ((text : List ℕ) → Contains texts text → IsUploadText text)
    → NotNone ((left : List (List ℕ)) × AreStillWaiting uploads texts left)
some_wait uploads [] each none = none ([], refl)
some_wait uploads (text ∷ texts) each none =
    let here = each text (in_front text texts) in
    some_wait uploads texts (λ other has. each other (behind_front text other texts has))
    (λ rest. either (outcome_of uploads here.0 ≡ unknown) (λ which. none (with_upload uploads text texts here.0 here.1 rest which)))
  where
    with_upload : (uploads : List Upload) (text : List ℕ) (texts : List (List ℕ)) (upload : Upload) → IsTextOf text upload → (left : List (List ℕ)) × AreStillWaiting uploads texts left
        → (outcome_of uploads upload ≡ unknown) ⊎ (outcome_of uploads upload ≡ unknown → ⊥) → (left : List (List ℕ)) × AreStillWaiting uploads (text ∷ texts) left
    with_upload uploads text texts upload is (left, waits) (inl nothing) = (text ∷ left, inl (upload, left, is, nothing, refl, waits))
    with_upload uploads text texts upload is (left, waits) (inr known) = (left, inr (upload, is, known, waits))

-- ---- the laws that are used

pub record SomeDueLaws : Type 0 where
  pub tick : (config : AgreementConfig) (me : ℕ) (views : Views) (left : ℕ) → IsFree config.members views.learner_calls config.slot_limit
      → NotNone ((due : Due) × TickIsDue config me views left due)
  pub part : (config : AgreementConfig) (me : ℕ) (views : Views) (sender slot : ℕ) (said : Body) → NotNone ((plan : Plan) × PartIsDue config me views sender slot said plan)
  pub learned : LearnerLaw

module _ (laws : SomeDueLaws) (config : AgreementConfig) (me : ℕ) where
  some_prefix : (views : Views) → NotNone ((values : List Value) × HasPrefix config.members views.learner_calls values)
  some_prefix views none = laws.part config me views 0 0 body.Ask (λ it. none (it.1.0, it.1.1))

  some_tables : (views : Views) → NotNone ((uploads : List Upload) × HasUploads config.members views.learner_calls uploads)
  some_tables views none =
      some_prefix views (λ p. some_uploads (map value_bytes p.0) (λ u. none (u.0, record { values = p.0; prefix = p.1; are = u.1 })))

  -- ---- the limit

  module _ (views : Views) (sound : IsSound config views) where
    free_at_limit : IsFree config.members views.learner_calls config.slot_limit
    free_at_limit value learned = elim (laws.learned config.members views.learner_calls config.slot_limit value learned) as (λ _. ⊥) [
      | inl decided ↦ absurd (omega (arith, sound.slots (learner.Decided config.slot_limit value) decided))
      | inr chosen ↦ absurd (omega (arith, sound.slots (learner.Accepted chosen.member config.slot_limit chosen.ballot value) chosen.proposed))
    ]

    no_longer : (values : List Value) → HasPrefix config.members views.learner_calls values → length values ≤ config.slot_limit
    no_longer values prefix = elim (cases_lt config.slot_limit (length values)) as (λ _. length values ≤ config.slot_limit) [
      | inl longer ↦ elim (slice_get_cases values config.slot_limit).1 as (λ _. length values ≤ config.slot_limit) [
        | inl there ↦ absurd (free_at_limit there.0 (prefix.learned config.slot_limit there.0 there.2))
        | inr past ↦ past.0
      ]
      | inr within ↦ within
    ]

    -- ---- a put

    abbrev DueTo : Input → Type 0
    DueTo asked = (due : Due) × IsDue config me views asked due

    put_unknown : (text : List ℕ) (upload : Upload) → IsTextOf text upload → (uploads : List Upload) → HasUploads config.members views.learner_calls uploads
        → (Waits views text → ⊥) → outcome_of uploads upload ≡ unknown → DueTo (Put text)
    put_unknown text upload is uploads has not nothing =
        elim (cases_lt (length has.values) config.slot_limit) as (λ _. DueTo (Put text)) [
          | inl left ↦ (Plans (quietly (waits_too views text)), inr (not, (upload, uploads, is, has, nothing), (has.values, has.prefix, left), refl))
          | inr full ↦
              let none = no_longer has.values has.prefix in
              (Refuses SlotsSpent, (refl, not, (upload, uploads, is, has, nothing), (has.values, has.prefix, omega (arith, full, none))))
        ]

    put_new : (text : List ℕ) (upload : Upload) → IsTextOf text upload → (uploads : List Upload) → HasUploads config.members views.learner_calls uploads
        → (Waits views text → ⊥) → (outcome_of uploads upload ≡ unknown) ⊎ (outcome_of uploads upload ≡ unknown → ⊥) → DueTo (Put text)
    put_new text upload is uploads has not (inl nothing) = put_unknown text upload is uploads has not nothing
    put_new text upload is uploads has not (inr known) = (Plans (quietly views), inl (inr (upload, uploads, is, has, known), refl))

    put_due : (text : List ℕ) (upload : Upload) → IsTextOf text upload → (uploads : List Upload) → HasUploads config.members views.learner_calls uploads
        → Waits views text ⊎ (Waits views text → ⊥) → (outcome_of uploads upload ≡ unknown) ⊎ (outcome_of uploads upload ≡ unknown → ⊥) → DueTo (Put text)
    put_due text upload is uploads has (inl waits) which = (Plans (quietly views), inl (inl waits, refl))
    put_due text upload is uploads has (inr not) which = put_new text upload is uploads has not which

    some_put : (text : List ℕ) → IsUploadText text → NotNone (DueTo (Put text))
    some_put text (upload, is) none =
        some_tables views (λ t. either (Waits views text) (λ waits. either (outcome_of t.0 upload ≡ unknown) (λ known. none (put_due text upload is t.0 t.1 waits known))))

    -- ---- a message

    module _ (seen : Views) (calls : seen.learner_calls ≡ views.learner_calls) (waiting : seen.waiting ≡ views.waiting) (sender slot : ℕ) where
      each_waits : (text : List ℕ) → Contains seen.waiting text → IsUploadText text
      each_waits text has = sound.uploads text (subst (λ (l : List (List ℕ)). Contains l text) waiting has)

      some_learning : (call : LearnerCall) → NotNone ((plan : Plan) × LearnsOf config seen call plan)
      some_learning call none =
          some_tables (also_learns seen call) (λ t. some_wait t.0 seen.waiting each_waits
          (λ w. none (quietly (with_waiting (also_learns seen call) w.0), (t.0, w.0, t.1, w.1, refl))))

      some_body : (said : Body) → NotNone ((plan : Plan) × BodyIsDue config me seen sender slot said plan)
      some_body (body.Accepted acceptance) none = some_learning (learner.Accepted sender slot acceptance.ballot acceptance.value) none
      some_body (body.Decided value) none = some_learning (learner.Decided slot value) none
      some_body (body.Prepare ballot) none = laws.part config me seen sender slot (body.Prepare ballot) none
      some_body (body.Promise ballot report) none = laws.part config me seen sender slot (body.Promise ballot report) none
      some_body (body.Nack ballot promised) none = laws.part config me seen sender slot (body.Nack ballot promised) none
      some_body (body.Accept proposal) none = laws.part config me seen sender slot (body.Accept proposal) none
      some_body body.Ask none = laws.part config me seen sender slot body.Ask none

    some_message : (m : Message) → NotNone (DueTo (Deliver m))
    some_message m none = either (IsMessageOf config m) (λ which. taken_or_not which)
      where
        taken_or_not : IsMessageOf config m ⊎ (IsMessageOf config m → ⊥) → ⊥
        taken_or_not (inl of) = some_body (has_seen views m) refl refl m.sender m.slot m.body (λ it. none (Plans it.0, (of, it.1)))
        taken_or_not (inr not) = none (Refuses OutOfRange, (refl, not))

    -- ---- any input

    pub some_due : (asked : Input) → IsWellFormed asked → NotNone (DueTo asked)
    some_due (Put text) is none = some_put text is none
    some_due (Tick left) is none = laws.tick config me views left free_at_limit none
    some_due (Deliver m) is none = some_message m none
