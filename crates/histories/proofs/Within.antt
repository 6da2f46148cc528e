-- What a history leaves a node: its learner was called for slots below the limit alone, and what waits are uploads.
use Rattle.std.proofs.Common.{◌≡◌, ℕ, ◌<◌, ◌+◌, inl, inr, Bool, Option, List, [], ◌∷◌, ◌++◌, refl, sym, ap, subst, ◌∙◌}
use Rattle.std.specs.List.{Contains, cons_option}
use Rattle.std.proofs.lemmas.Bool.{cases_eq}
use Rattle.std.proofs.lemmas.List.{append-nil}
use Rattle.ballots.specs.declared.record.Record.{Record}
use Rattle.ballots.specs.declared.message.Message.{Message}
use Rattle.ballots.specs.declared.message.Body.{Body}
use Rattle.ballots.specs.declared.message.Body.TheVariants as body
use Rattle.learner.specs.Calls.{LearnerCall, slot_of}
use Rattle.learner.specs.Calls as learner
use Rattle.table_types.specs.Uploads.{Upload}
use Rattle.agreement_rules.specs.Views.{AgreementConfig, Views, started_with}
use Rattle.agreement_rules.specs.Due.{Plan, Due, Refuses, Plans, Aim, Attempts, AsksFrom, AsksAt, AimIsDue, TickIsDue, PartIsDue, IsMessageOf, has_seen}
use Rattle.agreement_rules.specs.Due as due
use Rattle.agreement_rules.specs.Calling.{proposer_calls_of, learner_calls_of}
use Rattle.histories.specs.Texts.{IsUploadText}
use Rattle.histories.specs.Due.{Input, IsDue, PutIsDue, AreStillWaiting, LearnsOf, BodyIsDue, MessageIsDue}
use Rattle.histories.specs.Due as input
use Rattle.histories.specs.Event.{Event, node_of}
use Rattle.histories.specs.Event as event
use Rattle.histories.specs.EventResult.{EventResult, count_of}
use Rattle.histories.specs.History.{Step}
use Rattle.histories.specs.Following.{UpOrDown, IsUp, IsDown, recovered_in, down, PutGives, SendsGives, InputGives, CutGives, RestartGives, UpGives, RefusesAsDown, NodeGives, StepFollows, StepsReach, at_first}
use Rattle.histories.proofs.Lists.{nothing_in, first_or_rest, last_or_before}

pub record IsSound (config : AgreementConfig) (views : Views) : Type 0 where
  pub slots : (call : LearnerCall) → Contains views.learner_calls call → slot_of call < config.slot_limit
  pub uploads : (text : List ℕ) → Contains views.waiting text → IsUploadText text

abbrev pub IsSoundSeat : AgreementConfig → UpOrDown → Type 0
IsSoundSeat config (IsUp views) = IsSound config views
IsSoundSeat config (IsDown records due) = Unit {0}

-- a message leaves a node with what it tells the node's parts
abbrev pub ToldToParts : Type 0
ToldToParts = (config : AgreementConfig) (me : ℕ) (views : Views) (sender slot : ℕ) (said : Body) (plan : Plan) → PartIsDue config me views sender slot said plan
    → plan.after ≡ record {
      records = views.records ++ cons_option plan.kept [];
      seen_round = views.seen_round;
      waiting = views.waiting;
      proposer_calls = views.proposer_calls ++ proposer_calls_of sender slot said;
      learner_calls = views.learner_calls ++ learner_calls_of sender slot said;
    }

sound_at_start : (config : AgreementConfig) (records : List Record) → IsSound config (started_with records)
sound_at_start config records = record { slots = λ call has. absurd (nothing_in call has); uploads = λ text has. absurd (nothing_in text has) }

module _ (config : AgreementConfig) (views : Views) (sound : IsSound config views) where
  same_sound : (after : Views) → after.learner_calls ≡ views.learner_calls → after.waiting ≡ views.waiting → IsSound config after
  same_sound after calls waiting = record {
    slots = λ call has. sound.slots call (subst (λ (l : List LearnerCall). Contains l call) calls has);
    uploads = λ text has. sound.uploads text (subst (λ (l : List (List ℕ)). Contains l text) waiting has);
  }

  -- ---- a put

  one_more_waits : (text : List ℕ) → IsUploadText text → (other : List ℕ) → Contains (views.waiting ++ text ∷ []) other → IsUploadText other
  one_more_waits text is other has = elim (last_or_before views.waiting text other has) as (λ _. IsUploadText other) [
    | inl before ↦ sound.uploads other before
    | inr last ↦ subst IsUploadText (sym last) is
  ]

  put_sound : (text : List ℕ) (plan : Plan) → PutIsDue config views text (Plans plan) → IsSound config plan.after
  put_sound text plan (inl (known, is)) = subst (λ (p : Plan). IsSound config p.after) (sym is) sound
  put_sound text plan (inr (new, (upload, uploads, is_text, has, nothing), left, is)) =
      subst (λ (p : Plan). IsSound config p.after) (sym is) (record { slots = sound.slots; uploads = one_more_waits text (upload, is_text) })

  -- ---- a tick

  asks_sound : (me slot : ℕ) (plan : Plan) → AsksAt config me views slot plan → IsSound config plan.after
  asks_sound me slot plan (inl (lt, is)) = subst (λ (p : Plan). IsSound config p.after) (sym is) sound
  asks_sound me slot plan (inr (last, is)) = subst (λ (p : Plan). IsSound config p.after) (sym is) sound

  aim_sound : (me : ℕ) (aim : Aim) (plan : Plan) → AimIsDue config me views aim (Plans plan) → IsSound config plan.after
  aim_sound me (Attempts slot value) plan (highest, lt, is_highest, less, is) =
      subst (λ (p : Plan). IsSound config p.after) (sym is) (record { slots = sound.slots; uploads = sound.uploads })
  aim_sound me (AsksFrom slot) plan asks = asks_sound me slot plan asks

  refused_plan : (r : due.Refusal) (plan : Plan) → (let d : Due = Plans plan in d) ≡ Refuses r → ⊥
  refused_plan r plan same = cc

  tick_sound : (me left : ℕ) (plan : Plan) → TickIsDue config me views left (Plans plan) → IsSound config plan.after
  tick_sound me left plan (inl (more, is)) = absurd (refused_plan due.OutOfRange plan is)
  tick_sound me left plan (inr (aim, le, is_aim, is)) = aim_sound me aim plan is

-- ---- a message

still_uploads : (uploads : List Upload) (texts left : List (List ℕ)) → AreStillWaiting uploads texts left → (text : List ℕ) → Contains left text → IsUploadText text
still_uploads uploads [] left is text has = absurd (nothing_in text (subst (λ (l : List (List ℕ)). Contains l text) is has))
still_uploads uploads (first ∷ texts) left (inl (upload, rest, is, nothing, same, waits)) text has =
    elim (first_or_rest first text rest (subst (λ (l : List (List ℕ)). Contains l text) same has)) as (λ _. IsUploadText text) [
      | inl here ↦ subst IsUploadText (sym here) (upload, is)
      | inr later ↦ still_uploads uploads texts rest waits text later
    ]
still_uploads uploads (first ∷ texts) left (inr (upload, is, known, waits)) text has = still_uploads uploads texts left waits text has

module _ (told : ToldToParts) (config : AgreementConfig) (me : ℕ) (views : Views) (sound : IsSound config views) (sender slot : ℕ) (within : slot < config.slot_limit) where
  learning_sound : (call : LearnerCall) → slot_of call ≡ slot → (plan : Plan) → LearnsOf config views call plan → IsSound config plan.after
  learning_sound call of plan (uploads, left, has, waits, is) =
      subst (λ (p : Plan). IsSound config p.after) (sym is) (record {
        slots = λ other has_it. elim (last_or_before views.learner_calls call other has_it) as (λ _. slot_of other < config.slot_limit) [
          | inl before ↦ sound.slots other before
          | inr last ↦ subst (λ (c : LearnerCall). slot_of c < config.slot_limit) (sym last) (subst (λ (s : ℕ). s < config.slot_limit) (sym of) within)
        ];
        uploads = still_uploads uploads views.waiting left waits;
      })

  -- a body that tells the learner nothing
  silent_sound : (said : Body) (plan : Plan) → learner_calls_of sender slot said ≡ [] → PartIsDue config me views sender slot said plan → IsSound config plan.after
  silent_sound said plan none is_due =
      let after = told config me views sender slot said plan is_due in
      same_sound config views sound plan.after
      (ap (λ (v : Views). v.learner_calls) after ∙ ap (λ (l : List LearnerCall). views.learner_calls ++ l) none ∙ append-nil views.learner_calls)
      (ap (λ (v : Views). v.waiting) after)

  body_sound : (said : Body) (plan : Plan) → BodyIsDue config me views sender slot said plan → IsSound config plan.after
  body_sound (body.Prepare ballot) plan is_due = silent_sound (body.Prepare ballot) plan refl is_due
  body_sound (body.Promise ballot report) plan is_due = silent_sound (body.Promise ballot report) plan refl is_due
  body_sound (body.Nack ballot promised) plan is_due = silent_sound (body.Nack ballot promised) plan refl is_due
  body_sound (body.Accept proposal) plan is_due = silent_sound (body.Accept proposal) plan refl is_due
  body_sound (body.Accepted acceptance) plan is_due = learning_sound (learner.Accepted sender slot acceptance.ballot acceptance.value) refl plan is_due
  body_sound body.Ask plan is_due = silent_sound body.Ask plan refl is_due
  body_sound (body.Decided value) plan is_due = learning_sound (learner.Decided slot value) refl plan is_due

-- ---- any event

module _ (told : ToldToParts) (config : AgreementConfig) (sent : List Message) (next : ℕ) where
  sound_as : (new seat : UpOrDown) → new ≡ seat → IsSoundSeat config seat → IsSoundSeat config new
  sound_as new seat same sound = subst (IsSoundSeat config) (sym same) sound

  module _ (me : ℕ) (views : Views) (sound : IsSound config views) where
    due_sound : (asked : Input) (plan : Plan) → IsDue config me views asked (Plans plan) → IsSound config plan.after
    due_sound (input.Put text) plan is_due = put_sound config views sound text plan is_due
    due_sound (input.Tick left) plan is_due = tick_sound config views sound me left plan is_due
    due_sound (input.Deliver m) plan (is_of, is_due) =
        body_sound told config me (has_seen views m) (record { slots = sound.slots; uploads = sound.uploads }) m.sender m.slot is_of.slot m.body plan is_due

    sends_sound : (asked : Input) (given : EventResult) (new : UpOrDown) → InputGives config me views asked (SendsGives sent next views) given new → IsSoundSeat config new
    sends_sound asked given new (inl (Refuses refusal, is_due, (is, same))) = sound_as new (IsUp views) same sound
    sends_sound asked given new (inl (Plans plan, is_due, (is, placed, same))) = sound_as new (IsUp plan.after) same (due_sound asked plan is_due)
    sends_sound asked given new (inr (allowed, (is, same))) = sound_as new (IsUp views) same sound

    puts_sound : (text : List ℕ) (given : EventResult) (new : UpOrDown) → InputGives config me views (input.Put text) (PutGives views) given new → IsSoundSeat config new
    puts_sound text given new (inl (Refuses refusal, is_due, (is, same))) = sound_as new (IsUp views) same sound
    puts_sound text given new (inl (Plans plan, is_due, (is, same))) = sound_as new (IsUp plan.after) same (due_sound (input.Put text) plan is_due)
    puts_sound text given new (inr (allowed, (is, same))) = sound_as new (IsUp views) same sound

    cuts_sound : (asked : Input) (given : EventResult) (new : UpOrDown) → CutGives config me views asked given new → IsSoundSeat config new
    cuts_sound asked given new (is, (kept, keeps, same)) = sound_as new (IsDown views.records kept) same tt

  down_sound : (old : UpOrDown) → IsSoundSeat config (down old)
  down_sound (IsUp views) = tt
  down_sound (IsDown records due) = tt

  restart_sound : (recovered : Bool) (old : UpOrDown) (given : EventResult) (new : UpOrDown) → RestartGives recovered old given new → IsSoundSeat config new
  restart_sound recovered old given new (inl (is, same)) =
      sound_as new (IsUp (started_with (recovered_in recovered old))) same (sound_at_start config (recovered_in recovered old))
  restart_sound recovered old given new (inr (is, same)) = sound_as new (down old) same (down_sound old)

  up_sound : (recovered : Bool) (views : Views) (e : Event) (given : EventResult) (new : UpOrDown) → IsSound config views → UpGives config sent next recovered views e given new
      → IsSoundSeat config new
  up_sound recovered views (event.Put node text) given new sound gives = puts_sound node views sound text given new gives
  up_sound recovered views (event.Tick node left) given new sound gives = sends_sound node views sound (input.Tick left) given new gives
  up_sound recovered views (event.Deliver node number) given new sound (inl (m, lt, there, gives)) = sends_sound node views sound (input.Deliver m) given new gives
  up_sound recovered views (event.Deliver node number) given new sound (inr (late, is, same)) = sound_as new (IsUp views) same sound
  up_sound recovered views (event.TickCut node left) given new sound gives = cuts_sound node views sound (input.Tick left) given new gives
  up_sound recovered views (event.DeliverCut node number) given new sound (inl (m, lt, there, gives)) = cuts_sound node views sound (input.Deliver m) given new gives
  up_sound recovered views (event.DeliverCut node number) given new sound (inr (late, is, same)) = sound_as new (IsUp views) same sound
  up_sound recovered views (event.Restart node) given new sound gives = restart_sound recovered (IsUp views) given new gives
  up_sound recovered views (event.Get node table version) given new sound (uploads, has, gives, same) = sound_as new (IsUp views) same sound
  up_sound recovered views (event.Info node table) given new sound (uploads, has, gives, same) = sound_as new (IsUp views) same sound
  up_sound recovered views (event.Outcome node text) given new sound (uploads, has, gives, same) = sound_as new (IsUp views) same sound

  still_down : (records : List Record) (pending : Option Record) (given : EventResult) (new : UpOrDown) → RefusesAsDown (IsDown records pending) given new → IsSoundSeat config new
  still_down records pending given new (is, same) = sound_as new (IsDown records pending) same tt

  seat_sound : (recovered : Bool) (old : UpOrDown) (e : Event) (given : EventResult) (new : UpOrDown) → IsSoundSeat config old → NodeGives config sent next recovered old e given new
      → IsSoundSeat config new
  seat_sound recovered (IsUp views) e given new sound gives = up_sound recovered views e given new sound gives
  seat_sound recovered (IsDown records pending) (event.Put node text) given new sound gives = still_down records pending given new gives
  seat_sound recovered (IsDown records pending) (event.Tick node left) given new sound gives = still_down records pending given new gives
  seat_sound recovered (IsDown records pending) (event.Deliver node number) given new sound gives = still_down records pending given new gives
  seat_sound recovered (IsDown records pending) (event.TickCut node left) given new sound gives = still_down records pending given new gives
  seat_sound recovered (IsDown records pending) (event.DeliverCut node number) given new sound gives = still_down records pending given new gives
  seat_sound recovered (IsDown records pending) (event.Restart node) given new sound gives = restart_sound recovered (IsDown records pending) given new gives
  seat_sound recovered (IsDown records pending) (event.Get node table version) given new sound gives = still_down records pending given new gives
  seat_sound recovered (IsDown records pending) (event.Info node table) given new sound gives = still_down records pending given new gives
  seat_sound recovered (IsDown records pending) (event.Outcome node text) given new sound gives = still_down records pending given new gives

  step_sound : (old : ℕ → UpOrDown) (step : Step) (recovered : Bool) (new : ℕ → UpOrDown) → ((node : ℕ) → IsSoundSeat config (old node)) → StepFollows config sent next old step recovered new
      → (node : ℕ) → IsSoundSeat config (new node)
  step_sound old step recovered new sound (inl (member, gives, others)) node = elim (cases_eq node (node_of step.event)) as (λ _. IsSoundSeat config (new node)) [
    | inl own ↦
        subst (λ (n : ℕ). IsSoundSeat config (new n)) (sym own)
        (seat_sound recovered (old (node_of step.event)) step.event step.result (new (node_of step.event)) (sound (node_of step.event)) gives)
    | inr other ↦ sound_as (new node) (old node) (others node other) (sound node)
  ]
  step_sound old step recovered new sound (inr (outside, is, same)) node = sound_as (new node) (old node) (same node) (sound node)

-- ---- all steps

module _ (told : ToldToParts) (config : AgreementConfig) (sent : List Message) where
  steps_sound : (steps : List Step) (recovered : List Bool) (seats last : ℕ → UpOrDown) (next : ℕ) → ((node : ℕ) → IsSoundSeat config (seats node))
      → StepsReach config sent seats next steps recovered last → (node : ℕ) → IsSoundSeat config (last node)
  steps_sound [] recovered seats last next sound (none, end, same) node = sound_as told config sent next (last node) (seats node) (ap (λ (f : ℕ → UpOrDown). f node) same) (sound node)
  steps_sound (s ∷ steps) [] seats last next sound reaches node = absurd reaches
  steps_sound (s ∷ steps) (r ∷ recovered) seats last next sound (after, one, asked, rest) node =
      steps_sound steps recovered after last (next + count_of s.result) (step_sound told config sent next seats s r after sound one) rest node

  pub reached_sound : (steps : List Step) (recovered : List Bool) (seats : ℕ → UpOrDown) → StepsReach config sent at_first 0 steps recovered seats → (node : ℕ) (views : Views)
      → seats node ≡ IsUp views → IsSound config views
  reached_sound steps recovered seats reaches node views up =
      subst (IsSoundSeat config) up (steps_sound steps recovered at_first seats 0 (λ n. sound_at_start config []) reaches node)
