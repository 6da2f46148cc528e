-- It cannot be that nothing is due.
use Rattle.std.proofs.Common.{◌≡◌, ℕ, ◌<◌, ◌≤◌, max, inl, inr, List, [], ◌∷◌, ◌++◌, length, Option, Some, None, refl, sym, subst, arith}
use Rattle.std.proofs.lemmas.Bool.{cases_lt}
use Rattle.std.proofs.lemmas.Option.{slice_get_cases}
use Rattle.ballots.specs.Limits.{max_round}
use Rattle.ballots.specs.Ballot.{Ballot, IsAbove, IsAtLeast}
use Rattle.ballots.specs.declared.value.Value.{Value}
use Rattle.ballots.specs.declared.value.Value.TheVariants.{Noop, Upload as UploadValue}
use Rattle.ballots.specs.declared.acceptance.Acceptance.{Acceptance}
use Rattle.ballots.specs.declared.record.Record.{Record}
use Rattle.ballots.specs.declared.record.Record.TheVariants.{Promised, Accepted as HasAccepted}
use Rattle.ballots.specs.declared.message.Message.{Message}
use Rattle.ballots.specs.declared.message.Body.{Body}
use Rattle.ballots.specs.declared.message.Body.TheVariants.{Prepare, Promise, Nack, Accept, Accepted, Ask, Decided}
use Rattle.ballots.specs.Message.{message}
use Rattle.ballots.proofs.CallerLemmas.{at_least_where_not_below, below_or_at_least}
use Rattle.acceptor.specs.Standing.{Standing, IsSame, Sets}
use Rattle.acceptor.specs.declared.answer.Answer.{Answer}
use Rattle.acceptor.specs.declared.answer.Answer.TheVariants as answer
use Rattle.acceptor.specs.Answering.{Prepares, Accepts}
use Rattle.acceptor.specs.Restored.{IsRestored}
use Rattle.proposer.specs.Call.{Promise as Promising, Begun, ProposerCall as Asked, Promises}
use Rattle.proposer.specs.Choosing.{reports_of}
use Rattle.proposer.specs.Attempting.{next_ballot, IsOpen, Completes, counted, Answers}
use Rattle.decided_log.specs.Asked.{asked_of}
use Rattle.agreement_rules.specs.Views.{AgreementConfig, Views, IsFree, HasPrefix, HasGap}
use Rattle.agreement_rules.specs.Due.{Plan, Due, Plans, Refuses, OutOfRange, SlotsSpent, RoundsSpent, Aim, Attempts, AsksFrom, AimIsDue, TickIsDue, most_left, quietly, begins, answers_with, sends_alone, also_proposes, accept_of, IsMessageOf, PartIsDue, record_due, BodyKeeps, MessageKeeps, TickKeeps}
use Rattle.agreement_rules.proofs.Restorable.{put_at, put_here, put_others, highest_round}
use Rattle.agreement_rules.proofs.FreeSlots.{NotNone, either, DecidedOrChosen, some_prefix, some_free_slot}
use Rattle.agreement_rules.proofs.Choosing.{some_choice}

-- ---- a tick

module _ (law : DecidedOrChosen) (config : AgreementConfig) (me : ℕ) (views : Views) where
  abbrev DueToAim : Aim → Type 0
  DueToAim aim = (due : Due) × AimIsDue config me views aim due

  attempt_within : (slot : ℕ) (value : Value) → slot < config.slot_limit → DueToAim (Attempts slot value)
  attempt_within slot value within =
      let highest = highest_round views.records in
      elim (cases_lt (max views.seen_round highest.0) max_round) as (λ _. DueToAim (Attempts slot value)) [
        | inl left ↦ (Plans (begins me views slot value (next_ballot me highest.0 views.seen_round)), (highest.0, within, highest.1, left, refl))
        | inr spent ↦ (Refuses RoundsSpent, (highest.0, within, highest.1, spent))
      ]

  attempt_due : (slot : ℕ) (value : Value) → DueToAim (Attempts slot value)
  attempt_due slot value = elim (cases_lt slot config.slot_limit) as (λ _. DueToAim (Attempts slot value)) [
    | inl within ↦ attempt_within slot value within
    | inr spent ↦ (Refuses SlotsSpent, spent)
  ]

  question_due : (slot : ℕ) → slot ≤ config.slot_limit → DueToAim (AsksFrom slot)
  question_due slot le = elim (cases_lt slot config.slot_limit) as (λ _. DueToAim (AsksFrom slot)) [
    | inl within ↦ (Plans (sends_alone views (message me slot Ask ∷ [])), inl (within, refl))
    | inr spent ↦ (Plans (quietly views), inr ((omega (arith, le, spent)), refl))
  ]

  -- a prefix ends at a free slot or before it
  up_to_free : (values : List Value) → HasPrefix config.members views.learner_calls values → IsFree config.members views.learner_calls config.slot_limit
      → length values ≤ config.slot_limit
  up_to_free values prefix free = elim (slice_get_cases values config.slot_limit).1 as (λ _. length values ≤ config.slot_limit) [
    | inl there ↦ absurd (free there.0 (prefix.learned config.slot_limit there.0 there.2))
    | inr past ↦ past.0
  ]

  module _ (free : IsFree config.members views.learner_calls config.slot_limit) (left : ℕ) where
    abbrev DueToTick : Type 0
    DueToTick = (due : Due) × TickIsDue config me views left due

    serves : left ≤ most_left → (waiting : List (List ℕ)) → views.waiting ≡ waiting → NotNone DueToTick
    serves within [] waits none =
        some_prefix law config.members views.learner_calls (λ prefix.
        let slot : ℕ = length prefix.0 in
        either (HasGap config.members views.learner_calls slot) (λ found. elim found as (λ _. ⊥) [
          | inl gap ↦ (let due = attempt_due slot Noop in none (due.0, inr (Attempts slot Noop, within, inr (prefix.0, waits, refl, prefix.1, refl, gap), due.1)))
          | inr no_gap ↦
              let due = question_due slot (up_to_free prefix.0 prefix.1 free) in
              none (due.0, inr (AsksFrom slot, within, (prefix.0, waits, prefix.1, refl, no_gap), due.1))
        ]))
    serves within (text ∷ others) waits none =
        some_free_slot law config.members views.learner_calls left (λ slot.
        let due = attempt_due slot.0 (UploadValue text) in
        none (due.0, inr (Attempts slot.0 (UploadValue text), within, inl (text, others, waits, refl, slot.1), due.1)))

    due_to_tick : NotNone DueToTick
    due_to_tick none = elim (cases_lt most_left left) as (λ _. ⊥) [
      | inl over ↦ none (Refuses OutOfRange, inl (over, refl))
      | inr within ↦ serves within views.waiting refl none
    ]

    pub some_due : ((due : Due) → TickIsDue config me views left due → ⊥) → ⊥
    some_due none = due_to_tick (λ found. none found.0 found.1)

    pub some_tick_record : ((kept : Option Record) → TickKeeps config me views left kept → ⊥) → ⊥
    some_tick_record none = due_to_tick (λ found. none (record_due found.0) (found.0, found.1, refl))

-- ---- a body

-- the records leave a standing
abbrev pub Restores : Type 0
Restores = (records : List Record) → (now : Standing) × IsRestored records now

stays : (old : Standing) → IsSame old old
stays old = record { promises = λ s. refl; acceptances = λ s. refl }

sets_promise : (old : Standing) (slot : ℕ) (ballot : Ballot) → Sets old (record { promised = put_at old.promised slot ballot; accepted = old.accepted }) slot ballot (old.accepted slot)
sets_promise old slot ballot = record {
  promises = record { here = put_here old.promised slot ballot; others = put_others old.promised slot ballot };
  acceptances = record { here = refl; others = λ s apart. refl };
}

sets_both : (old : Standing) (slot : ℕ) (proposal : Acceptance)
    → Sets old (record { promised = put_at old.promised slot proposal.ballot; accepted = put_at old.accepted slot proposal }) slot proposal.ballot (Some proposal)
sets_both old slot proposal = record {
  promises = record { here = put_here old.promised slot proposal.ballot; others = put_others old.promised slot proposal.ballot };
  acceptances = record { here = put_here old.accepted slot proposal; others = put_others old.accepted slot proposal };
}

-- what an acceptor that stands so answers
prepare_reply : (old : Standing) (slot : ℕ) (ballot : Ballot) (o : Option Ballot) → old.promised slot ≡ o → (new : Standing) × (reply : Answer) × Prepares old new slot ballot reply
prepare_reply old slot ballot None is = (
  record { promised = put_at old.promised slot ballot; accepted = old.accepted },
  answer.Promise (old.accepted slot),
  (subst (IsAbove ballot) (sym is) tt, refl, sets_promise old slot ballot),
)
prepare_reply old slot ballot (Some held) is = elim (below_or_at_least held ballot) as (λ _. (new : Standing) × (reply : Answer) × Prepares old new slot ballot reply) [
  | inl below ↦ (
    record { promised = put_at old.promised slot ballot; accepted = old.accepted },
    answer.Promise (old.accepted slot),
    (subst (IsAbove ballot) (sym is) below, refl, sets_promise old slot ballot),
  )
  | inr at_least ↦ (old, answer.Nack held, (is, at_least, stays old))
]

accept_reply : (old : Standing) (slot : ℕ) (proposal : Acceptance) (o : Option Ballot) → old.promised slot ≡ o → (new : Standing) × (reply : Answer) × Accepts old new slot proposal reply
accept_reply old slot proposal None is = (
  record { promised = put_at old.promised slot proposal.ballot; accepted = put_at old.accepted slot proposal },
  answer.Granted,
  (subst (IsAtLeast proposal.ballot) (sym is) tt, sets_both old slot proposal),
)
accept_reply old slot proposal (Some held) is = elim (below_or_at_least proposal.ballot held) as (λ _. (new : Standing) × (reply : Answer) × Accepts old new slot proposal reply) [
  | inl below ↦ (old, answer.Nack held, (is, below, stays old))
  | inr at_least ↦ (
    record { promised = put_at old.promised slot proposal.ballot; accepted = put_at old.accepted slot proposal },
    answer.Granted,
    (subst (IsAtLeast proposal.ballot) (sym is) at_least, sets_both old slot proposal),
  )
]

-- what a proposer answers to a promise
some_answer : (members : ℕ) (calls : List Asked) (p : Promising) → NotNone ((accept : Option (ℕ × Ballot × Value)) × Answers members calls p accept)
some_answer members calls p none =
    either ((begun : Begun) × (since : List Asked) × IsOpen calls begun since × Completes members begun since p) (λ found. elim found as (λ _. ⊥) [
      | inl completes ↦
          let chosen = some_choice completes.0.candidate (reports_of (counted members completes.0 (completes.1 ++ Promises p ∷ []))) in
          none (
            Some (completes.0.slot, completes.0.ballot, chosen.0),
            record {
              begun = completes.0;
              since = completes.1;
              open_is = completes.2;
              completes = completes.3;
              slot_is = refl;
              ballot_is = refl;
              value_is = chosen.1;
            },
          )
      | inr not ↦ none (None, λ begun since is_open completes. not (begun, since, is_open, completes))
    ])

module _ (law : DecidedOrChosen) (restores : Restores) (config : AgreementConfig) (me : ℕ) (views : Views) (sender slot : ℕ) where
  abbrev DueToBody : Body → Type 0
  DueToBody said = (plan : Plan) × PartIsDue config me views sender slot said plan

  plan_of_prepare : (ballot : Ballot) (old new : Standing) (reply : Answer) → IsRestored views.records old → Prepares old new slot ballot reply → DueToBody (Prepare ballot)
  plan_of_prepare ballot old new (answer.Promise report) is prepares =
      (answers_with views (Promised slot ballot) (message me slot (Promise ballot report)), (old, new, answer.Promise report, is, prepares, refl))
  plan_of_prepare ballot old new (answer.Nack promised) is prepares =
      (sends_alone views (message me slot (Nack ballot promised) ∷ []), (old, new, answer.Nack promised, is, prepares, refl))
  plan_of_prepare ballot old new answer.Granted is prepares = absurd prepares
  plan_of_prepare ballot old new (answer.PromiseFrom reports) is prepares = absurd prepares

  plan_of_accept : (proposal : Acceptance) (old new : Standing) (reply : Answer) → IsRestored views.records old → Accepts old new slot proposal reply → DueToBody (Accept proposal)
  plan_of_accept proposal old new answer.Granted is accepts =
      (answers_with views (HasAccepted slot proposal) (message me slot (Accepted proposal)), (old, new, answer.Granted, is, accepts, refl))
  plan_of_accept proposal old new (answer.Nack promised) is accepts =
      (sends_alone views (message me slot (Nack proposal.ballot promised) ∷ []), (old, new, answer.Nack promised, is, accepts, refl))
  plan_of_accept proposal old new (answer.Promise report) is accepts = absurd accepts
  plan_of_accept proposal old new (answer.PromiseFrom reports) is accepts = absurd accepts

  due_to_body : (said : Body) → NotNone (DueToBody said)
  due_to_body (Prepare ballot) none =
      let old = restores views.records in
      let replied = prepare_reply old.0 slot ballot (old.0.promised slot) refl in
      none (plan_of_prepare ballot old.0 replied.0 replied.1 old.1 replied.2)
  due_to_body (Accept proposal) none =
      let old = restores views.records in
      let replied = accept_reply old.0 slot proposal (old.0.promised slot) refl in
      none (plan_of_accept proposal old.0 replied.0 replied.1 old.1 replied.2)
  due_to_body (Promise ballot report) none =
      let promise : Promising = record { sender = sender; slot = slot; ballot = ballot; report = report } in
      some_answer config.members views.proposer_calls promise
      (λ found. none (sends_alone (also_proposes views (Promises promise)) (accept_of me found.0), (found.0, found.1, refl)))
  due_to_body (Nack ballot promised) none = none (_, refl)
  due_to_body (Accepted acceptance) none = none (_, refl)
  due_to_body (Decided value) none = none (_, refl)
  due_to_body Ask none =
      some_prefix law config.members views.learner_calls (λ prefix. none (sends_alone views (asked_of me prefix.0 slot), (prefix.0, prefix.1, refl)))

  pub some_plan : (said : Body) → ((plan : Plan) → PartIsDue config me views sender slot said plan → ⊥) → ⊥
  some_plan said none = due_to_body said (λ found. none found.0 found.1)

-- ---- records

module _ (restores : Restores) where
  promise_kept : (records : List Record) (slot : ℕ) (ballot : Ballot) (now : Standing) → IsRestored records now → (o : Option Ballot) → now.promised slot ≡ o
      → (kept : Option Record) × BodyKeeps records slot (Prepare ballot) kept
  promise_kept records slot ballot now is None promised = (Some (Promised slot ballot), (now, is, inl (subst (IsAbove ballot) (sym promised) tt, refl)))
  promise_kept records slot ballot now is (Some held) promised = elim (below_or_at_least held ballot) as (λ _. (kept : Option Record) × BodyKeeps records slot (Prepare ballot) kept) [
    | inl below ↦ (Some (Promised slot ballot), (now, is, inl (subst (IsAbove ballot) (sym promised) below, refl)))
    | inr at_least ↦ (None, (now, is, inr (λ above. (at_least_where_not_below ballot held).0 at_least (subst (IsAbove ballot) promised above), refl)))
  ]

  acceptance_kept : (records : List Record) (slot : ℕ) (proposal : Acceptance) (now : Standing) → IsRestored records now → (o : Option Ballot) → now.promised slot ≡ o
      → (kept : Option Record) × BodyKeeps records slot (Accept proposal) kept
  acceptance_kept records slot proposal now is None promised =
      (Some (HasAccepted slot proposal), (now, is, inl (subst (IsAtLeast proposal.ballot) (sym promised) tt, refl)))
  acceptance_kept records slot proposal now is (Some held) promised = elim (below_or_at_least proposal.ballot held) as (λ _. (kept : Option Record) × BodyKeeps records slot (Accept proposal) kept) [
    | inl below ↦ (None, (now, is, inr (λ at_least. (at_least_where_not_below held proposal.ballot).0 (subst (IsAtLeast proposal.ballot) promised at_least) below, refl)))
    | inr at_least ↦ (Some (HasAccepted slot proposal), (now, is, inl (subst (IsAtLeast proposal.ballot) (sym promised) at_least, refl)))
  ]

  pub some_record : (records : List Record) (slot : ℕ) (said : Body) → (kept : Option Record) × BodyKeeps records slot said kept
  some_record records slot (Prepare ballot) = (let now = restores records in promise_kept records slot ballot now.0 now.1 (now.0.promised slot) refl)
  some_record records slot (Accept proposal) = (let now = restores records in acceptance_kept records slot proposal now.0 now.1 (now.0.promised slot) refl)
  some_record records slot (Promise ballot report) = (None, refl)
  some_record records slot (Nack ballot promised) = (None, refl)
  some_record records slot (Accepted acceptance) = (None, refl)
  some_record records slot (Decided value) = (None, refl)
  some_record records slot Ask = (None, refl)

  pub some_message_record : (config : AgreementConfig) (views : Views) (m : Message) → ((kept : Option Record) → MessageKeeps config views m kept → ⊥) → ⊥
  some_message_record config views m none = either (IsMessageOf config m) (λ found. elim found as (λ _. ⊥) [
    | inl is ↦ (let due = some_record views.records m.slot m.body in none due.0 (inl (is, due.1)))
    | inr not ↦ none None (inr (not, refl))
  ])
