-- What is due keeps to texts: where all uploads that a node has, and those of its input, are of some texts, so are those that it plans.
use Rattle.std.proofs.Common.{◌≡◌, ◌≢◌, ℕ, ◌+◌, ◌<◌, ◌⊎◌, ◌↔◌, inl, inr, Bool, true, false, if◌then◌else◌, nat_eq, List, [], ◌∷◌, ◌++◌, length, Option, Some, None, slice_get, refl, sym, subst, ◌∙◌}
use Rattle.std.specs.List.{Contains, filter_map}
use Rattle.std.proofs.lemmas.Option.{slice_get_within}
use Rattle.ballots.specs.Ballot.{Ballot, IsBelow}
use Rattle.ballots.specs.declared.value.Value.{Value}
use Rattle.ballots.specs.declared.acceptance.Acceptance.{Acceptance}
use Rattle.ballots.specs.declared.record.Record.{Record}
use Rattle.ballots.specs.declared.record.Record.TheVariants.{Began, Promised, Accepted as HasAccepted, PromisedFrom}
use Rattle.ballots.specs.declared.message.Message.{Message}
use Rattle.ballots.specs.declared.message.Body.{Body}
use Rattle.ballots.specs.declared.message.Body.TheVariants.{Prepare, Promise, Nack, Accept, Accepted, Ask, Decided}
use Rattle.ballots.specs.Message.{message}
use Rattle.acceptor.specs.Standing.{Standing}
use Rattle.acceptor.specs.Answering.{Prepares}
use Rattle.acceptor.specs.declared.answer.Answer.{Answer}
use Rattle.acceptor.specs.declared.answer.Answer.TheVariants as answer
use Rattle.acceptor.specs.Restored.{acceptance_in, IsLastHighest, IsRestored}
use Rattle.proposer.specs.Call.{Reach, OneSlot, AllFrom, Begun, Promise as Promised_call, PromiseFrom, ProposerCall as Asked, Begins, Promises, PromisesFrom, Nacks}
use Rattle.proposer.specs.Choosing.{PromiseReport, first_of_each, reports_of, Chooses}
use Rattle.proposer.specs.Reporting.{said_of}
use Rattle.proposer.specs.Attempting.{Answers, answering, answering_at, counted}
use Rattle.proposer.specs.Attempting as attempting
use Rattle.proposer.specs.Promised.{IsAnswerTo, IsAnswerFrom}
use Rattle.learner.specs.Calls.{LearnerCall as Told, IsLearned}
use Rattle.learner.specs.Calls as told
use Rattle.learner.specs.Votes.{IsDecidedOrChosen}
use Rattle.decided_log.specs.Asked.{asked_of, decided_message}
use Rattle.table_types.specs.Uploads.{Upload}
use Rattle.agreement_rules.specs.Views.{AgreementConfig, Views, HasPrefix}
use Rattle.agreement_rules.specs.Due.{Due, Plan, record_due, BodyKeeps, Refuses, Plans, Aim, Attempts, AsksFrom, quietly, IsAim, begins, AsksAt, AimIsDue, TickIsDue, has_seen, answers_with, sends_alone, ReplyToPrepare, ReplyToAccept, also_proposes, accept_of}
use Rattle.histories.specs.Due.{Input, InputKeeps, PutIsDue, waits_too, AreStillWaiting, LearnsOf, BodyIsDue, IsDue}
use Rattle.agreement_rules.specs.Due as due
use Rattle.histories.specs.Due as input
use Rattle.safe_histories.proofs.Lists.{In, some_same, none_is_some, in_from_contains, contains_from_in, in_right, in_filter_map, at_from_in}
use Rattle.safe_histories.proofs.Heard.{LearnerLaws}
use Rattle.safe_histories.proofs.Running.{refused_plan}
use Rattle.safe_histories.proofs.Putting.{Each, each_none, each_one, each_more, ValueFrom, ReportFrom, BodyFrom, MessageFrom, RecordFrom, DueFrom, AskedFrom, ToldFrom, ViewsFrom, PlanFrom}

-- laws of a proposer
pub record ProposerLaws : Type 0 where
  pub highest : (candidate : Value) (reports : List PromiseReport) (v : Value) → Chooses candidate reports v
      → ((reports ≡ []) × (v ≡ candidate)) ⊎ ((ballot : Ballot) × Contains reports (record { ballot = ballot; value = v })
      × ((other : PromiseReport) → Contains reports other → IsBelow ballot other.ballot → ⊥))
  pub reports : (promises : List Promised_call) (report : PromiseReport) → Contains (reports_of promises) report
      ↔ ((promise : Promised_call) × Contains promises promise × (promise.report ≡ Some report))
  pub first : (promises : List Promised_call) (promise : Promised_call) → Contains (first_of_each promises) promise
      ↔ ((before : List Promised_call) × (after : List Promised_call) × (promises ≡ before ++ promise ∷ after)
      × ((other : Promised_call) → Contains before other → other.sender ≢ promise.sender))
  pub answering : (members : ℕ) (begun : Begun) (since : List Asked) (promise : Promised_call) → begun.reach ≡ OneSlot
      → Contains (answering members begun since) promise ↔ (Contains since (Promises promise) × IsAnswerTo members begun promise)
  pub answering_from : (members : ℕ) (begun : Begun) (slot : ℕ) (since : List Asked) (promise : Promised_call) → begun.reach ≡ AllFrom
      → Contains (answering_at members begun slot since) promise
      ↔ ((said : PromiseFrom) × Contains since (PromisesFrom said) × IsAnswerFrom members begun said × (promise ≡ said_of slot said))

-- what is answered to one who asks
abbrev pub EachAsked : Type 0
EachAsked = (node from k : ℕ) (prefix : List Value) → k < length (asked_of node prefix from)
    → (value : Value) × (slice_get prefix (from + k) ≡ Some value) × (slice_get (asked_of node prefix from) k ≡ Some (decided_message node (from + k) value))

module _ (T : List ℕ → Type 0) where
  -- ---- acceptors

  accepted_in : (a accepted : Acceptance) (b : Bool) → ValueFrom T accepted.value → (if b then Some accepted else None) ≡ Some a → ValueFrom T a.value
  accepted_in a accepted true from is = subst (λ (x : Acceptance). ValueFrom T x.value) (some_same accepted a is) from
  accepted_in a accepted false from is = absurd (none_is_some a is)

  acceptance_from : (slot : ℕ) (r : Record) (a : Acceptance) → RecordFrom T r → acceptance_in slot r ≡ Some a → ValueFrom T a.value
  acceptance_from slot (Began ballot) a from is = absurd (none_is_some a is)
  acceptance_from slot (Promised of ballot) a from is = absurd (none_is_some a is)
  acceptance_from slot (HasAccepted of accepted) a from is = accepted_in a accepted (nat_eq slot of) from is
  acceptance_from slot (PromisedFrom first ballot) a from is = absurd (none_is_some a is)

  highest_from : (slot : ℕ) (records : List Record) (o : Option Acceptance) → Each (RecordFrom T) records → IsLastHighest (filter_map (acceptance_in slot) records) o
      → ReportFrom T o
  highest_from slot records None from is = tt
  highest_from slot records (Some highest) from (before, after, parts, above, below) =
      let by = in_filter_map (acceptance_in slot) records highest (subst (λ l. In l highest) (sym parts) (in_right before (highest ∷ after) highest (inl refl))) in
      acceptance_from slot by.0 highest (from by.0 by.1) by.2

  report_from : (records : List Record) (old new : Standing) (slot : ℕ) (ballot : Ballot) (report : Option Acceptance) → Each (RecordFrom T) records
      → IsRestored records old → Prepares old new slot ballot (answer.Promise report) → ReportFrom T report
  report_from records old new slot ballot report from restored (above, is, sets) =
      subst (ReportFrom T) (sym is) (highest_from slot records (old.accepted slot) from (restored.acceptances slot))

  -- ---- proposers

  module _ (proposer : ProposerLaws) where
    told_from : (members : ℕ) (begun : Begun) (calls : List Asked) (promise : Promised_call) (reach : Reach) → begun.reach ≡ reach → Each (AskedFrom T) calls
        → Contains (answering members begun calls) promise → ReportFrom T promise.report
    told_from members begun calls promise OneSlot is from came =
        let call = (proposer.answering members begun calls promise is).0 came in
        from (Promises promise) (in_from_contains calls (Promises promise) call.0)
    told_from members begun calls promise AllFrom is from came =
        let said = (proposer.answering_from members begun begun.slot calls promise is).0 came in
        subst (λ (p : Promised_call). ReportFrom T p.report) (sym said.3) (from (PromisesFrom said.0) (in_from_contains calls (PromisesFrom said.0) said.1) begun.slot)

    reported_from : (members : ℕ) (begun : Begun) (calls : List Asked) (report : PromiseReport) → Each (AskedFrom T) calls
        → Contains (reports_of (counted members begun calls)) report → ValueFrom T report.value
    reported_from members begun calls report from there =
        let by = (proposer.reports (counted members begun calls) report).0 there in
        let first = (proposer.first (answering members begun calls) by.0).0 by.1 in
        let promised = by.0 in
        let came : Contains (answering members begun calls) promised =
        contains_from_in (answering members begun calls) promised
        (subst (λ l. In l promised) (sym first.2) (in_right first.0 (promised ∷ first.1) promised (inl refl))) in
        subst (ReportFrom T) by.2 (told_from members begun calls promised begun.reach refl from came)

    chosen_from : (members : ℕ) (calls : List Asked) (promise : Promised_call) (accept : ℕ × Ballot × Value) → Each (AskedFrom T) calls → ReportFrom T promise.report
        → attempting.LeadsToAccept members calls promise accept → ValueFrom T accept.2
    chosen_from members calls promise accept from report accepts =
        let all : Each (AskedFrom T) (accepts.open_is.before ++ Begins accepts.begun ∷ accepts.since) = subst (Each (AskedFrom T)) accepts.open_is.split from in
        let begun : ValueFrom T accepts.begun.candidate =
        all (Begins accepts.begun) (in_right accepts.open_is.before (Begins accepts.begun ∷ accepts.since) (Begins accepts.begun) (inl refl)) in
        let since : Each (AskedFrom T) (accepts.since ++ Promises promise ∷ []) =
        each_more (AskedFrom T) accepts.since (Promises promise)
        (λ call there. all call (in_right accepts.open_is.before (Begins accepts.begun ∷ accepts.since) call (inr there))) report in
        let reports = reports_of (counted members accepts.begun (accepts.since ++ Promises promise ∷ [])) in
        elim (proposer.highest accepts.begun.candidate reports accept.2 accepts.value_is) as (λ _. ValueFrom T accept.2) [
          | inl own ↦ subst (ValueFrom T) (sym own.1) begun
          | inr reported ↦ reported_from members accepts.begun (accepts.since ++ Promises promise ∷ []) (record { ballot = reported.0; value = accept.2 }) since reported.1
        ]

    accept_from : (me members : ℕ) (calls : List Asked) (promise : Promised_call) (accept : Option (ℕ × Ballot × Value)) → Each (AskedFrom T) calls
        → ReportFrom T promise.report → Answers members calls promise accept → Each (MessageFrom T) (accept_of me accept)
    accept_from me members calls promise None from report answers = each_none (MessageFrom T)
    accept_from me members calls promise (Some accept) from report accepts =
        each_one (MessageFrom T) (message me accept.0 (Accept (record { ballot = accept.1; value = accept.2 })))
        (chosen_from members calls promise accept from report accepts)

  -- ---- learners

  module _ (learner : LearnerLaws) where
    learned_from : (members : ℕ) (calls : List Told) (slot : ℕ) (value : Value) → Each (ToldFrom T) calls → IsLearned members calls slot value → ValueFrom T value
    learned_from members calls slot value from is = by_cases (learner.only members calls slot value is)
      where
        by_cases : IsDecidedOrChosen members calls slot value → ValueFrom T value
        by_cases (inl decided) = from (told.Decided slot value) (in_from_contains calls (told.Decided slot value) decided)
        by_cases (inr chosen) =
            from (told.Accepted chosen.member slot chosen.ballot value)
            (in_from_contains calls (told.Accepted chosen.member slot chosen.ballot value) chosen.proposed)

    pub prefix_from : (members : ℕ) (calls : List Told) (values : List Value) (slot : ℕ) (value : Value) → Each (ToldFrom T) calls → HasPrefix members calls values
        → slice_get values slot ≡ Some value → ValueFrom T value
    prefix_from members calls values slot value from prefix at = learned_from members calls slot value from (prefix.learned slot value at)

    asked_from : EachAsked → (members me from : ℕ) (calls : List Told) (values : List Value) → Each (ToldFrom T) calls → HasPrefix members calls values
        → Each (MessageFrom T) (asked_of me values from)
    asked_from each members me from calls values are prefix = λ m there.
        let at = at_from_in (asked_of me values from) m there in
        let one = each me from at.0 values (slice_get_within (asked_of me values from) at.0 m at.1) in
        let same : decided_message me (from + at.0) one.0 ≡ m = some_same (decided_message me (from + at.0) one.0) m (sym one.2 ∙ at.1) in
        subst (MessageFrom T) same (prefix_from members calls values (from + at.0) one.0 are prefix one.1)

  -- ---- uploads that wait

  kept_waiting : (uploads : List Upload) (waiting left : List (List ℕ)) → AreStillWaiting uploads waiting left → (text : List ℕ) → In left text → In waiting text
  kept_waiting uploads [] left is text there = rw is at there
  kept_waiting uploads (first ∷ texts) left (inl (upload, rest, is, nothing, parts, more)) text there =
      stays first texts rest text (kept_waiting uploads texts rest more text) (rw parts at there)
    where
      stays : (first : List ℕ) (texts rest : List (List ℕ)) (text : List ℕ) → (In rest text → In texts text) → (first ≡ text) ⊎ In rest text → In (first ∷ texts) text
      stays first texts rest text more (inl same) = inl same
      stays first texts rest text more (inr later) = inr (more later)
  kept_waiting uploads (first ∷ texts) left (inr (upload, is, known, more)) text there = inr (kept_waiting uploads texts left more text there)

  -- ---- plans

  planned : (plan same : Plan) → plan ≡ same → PlanFrom T same → PlanFrom T plan
  planned plan same is from = subst (PlanFrom T) (sym is) from

  quiet_from : (after : Views) → ViewsFrom T after → PlanFrom T (quietly after)
  quiet_from after from = record { kept = tt; sends = each_none (MessageFrom T); after = from }

  alone_from : (after : Views) (messages : List Message) → ViewsFrom T after → Each (MessageFrom T) messages → PlanFrom T (sends_alone after messages)
  alone_from after messages from are = record { kept = tt; sends = are; after = from }

  answer_from : (views : Views) (kept : Record) (reply : Message) → ViewsFrom T views → RecordFrom T kept → MessageFrom T reply
      → PlanFrom T (answers_with views kept reply)
  answer_from views kept reply from is sent = record {
    kept = is;
    sends = each_one (MessageFrom T) reply sent;
    after = record {
      records = each_more (RecordFrom T) views.records kept from.records is;
      waiting = from.waiting;
      proposer_calls = from.proposer_calls;
      learner_calls = from.learner_calls;
    };
  }

  put_from : (config : AgreementConfig) (views : Views) (text : List ℕ) (plan : Plan) → ViewsFrom T views → T text → PutIsDue config views text (Plans plan) → PlanFrom T plan
  put_from config views text plan from is (inl (known, same)) = planned plan (quietly views) same (quiet_from views from)
  put_from config views text plan from is (inr (new, nothing, left, same)) = planned plan (quietly (waits_too views text)) same (quiet_from (waits_too views text) (record {
    records = from.records;
    waiting = each_more T views.waiting text from.waiting is;
    proposer_calls = from.proposer_calls;
    learner_calls = from.learner_calls;
  }))

  aimed_from : (config : AgreementConfig) (views : Views) (left slot : ℕ) (value : Value) → ViewsFrom T views → IsAim config views left (Attempts slot value) → ValueFrom T value
  aimed_from config views left slot value from (inl (text, others, waits, is, free)) =
      subst (ValueFrom T) (sym is) (from.waiting text (subst (λ l. In l text) (sym waits) (inl refl)))
  aimed_from config views left slot value from (inr (values, waits, is, prefix, at, gap)) = subst (ValueFrom T) (sym is) tt

  begun_from : (me slot : ℕ) (views : Views) (value : Value) (ballot : Ballot) → ViewsFrom T views → ValueFrom T value → PlanFrom T (begins me views slot value ballot)
  begun_from me slot views value ballot from is = record {
    kept = tt;
    sends = each_one (MessageFrom T) (message me slot (Prepare ballot)) tt;
    after = record {
      records = each_more (RecordFrom T) views.records (Began ballot) from.records tt;
      waiting = from.waiting;
      proposer_calls = each_more (AskedFrom T) views.proposer_calls
          (Begins (record { slot = slot; reach = OneSlot; seen_round = views.seen_round; candidate = value; ballot = ballot })) from.proposer_calls is;
      learner_calls = from.learner_calls;
    };
  }

  asks_from : (config : AgreementConfig) (me : ℕ) (views : Views) (slot : ℕ) (plan : Plan) → ViewsFrom T views → AsksAt config me views slot plan → PlanFrom T plan
  asks_from config me views slot plan from (inl (lt, same)) =
      planned plan (sends_alone views (message me slot Ask ∷ [])) same
      (alone_from views (message me slot Ask ∷ []) from (each_one (MessageFrom T) (message me slot Ask) tt))
  asks_from config me views slot plan from (inr (last, same)) = planned plan (quietly views) same (quiet_from views from)

  aim_from : (config : AgreementConfig) (me left : ℕ) (views : Views) (aim : Aim) (plan : Plan) → ViewsFrom T views → IsAim config views left aim
      → AimIsDue config me views aim (Plans plan) → PlanFrom T plan
  aim_from config me left views (Attempts slot value) plan from is (highest, lt, is_highest, less, same) =
      planned plan _ same (begun_from me slot views value _ from (aimed_from config views left slot value from is))
  aim_from config me left views (AsksFrom slot) plan from is asks = asks_from config me views slot plan from asks

  tick_from : (config : AgreementConfig) (me : ℕ) (views : Views) (left : ℕ) (plan : Plan) → ViewsFrom T views → TickIsDue config me views left (Plans plan) → PlanFrom T plan
  tick_from config me views left plan from (inl (more, is)) = absurd (refused_plan due.OutOfRange plan is)
  tick_from config me views left plan from (inr (aim, le, is_aim, is)) = aim_from config me left views aim plan from is_aim is

  prepare_from : (me : ℕ) (views : Views) (old new : Standing) (slot : ℕ) (ballot : Ballot) (reply : Answer) (plan : Plan) → ViewsFrom T views
      → IsRestored views.records old → Prepares old new slot ballot reply → ReplyToPrepare me views slot ballot reply plan → PlanFrom T plan
  prepare_from me views old new slot ballot (answer.Promise report) plan from restored prepares is =
      planned plan (answers_with views (Promised slot ballot) (message me slot (Promise ballot report))) is
      (answer_from views (Promised slot ballot) (message me slot (Promise ballot report)) from tt
      (report_from views.records old new slot ballot report from.records restored prepares))
  prepare_from me views old new slot ballot (answer.Nack promised) plan from restored prepares is =
      planned plan (sends_alone views (message me slot (Nack ballot promised) ∷ [])) is
      (alone_from views (message me slot (Nack ballot promised) ∷ []) from (each_one (MessageFrom T) (message me slot (Nack ballot promised)) tt))
  prepare_from me views old new slot ballot answer.Granted plan from restored prepares never = absurd never
  prepare_from me views old new slot ballot (answer.PromiseFrom reports) plan from restored prepares never = absurd never

  accepted_from : (me : ℕ) (views : Views) (slot : ℕ) (proposal : Acceptance) (reply : Answer) (plan : Plan) → ViewsFrom T views → ValueFrom T proposal.value
      → ReplyToAccept me views slot proposal reply plan → PlanFrom T plan
  accepted_from me views slot proposal answer.Granted plan from value is =
      planned plan (answers_with views (HasAccepted slot proposal) (message me slot (Accepted proposal))) is
      (answer_from views (HasAccepted slot proposal) (message me slot (Accepted proposal)) from value value)
  accepted_from me views slot proposal (answer.Nack promised) plan from value is =
      planned plan (sends_alone views (message me slot (Nack proposal.ballot promised) ∷ [])) is
      (alone_from views (message me slot (Nack proposal.ballot promised) ∷ []) from (each_one (MessageFrom T) (message me slot (Nack proposal.ballot promised)) tt))
  accepted_from me views slot proposal (answer.Promise report) plan from value never = absurd never
  accepted_from me views slot proposal (answer.PromiseFrom reports) plan from value never = absurd never

  too_from : (views : Views) (call : Asked) → ViewsFrom T views → AskedFrom T call → ViewsFrom T (also_proposes views call)
  too_from views call from is = record {
    records = from.records;
    waiting = from.waiting;
    proposer_calls = each_more (AskedFrom T) views.proposer_calls call from.proposer_calls is;
    learner_calls = from.learner_calls;
  }

  learns_from : (config : AgreementConfig) (views : Views) (call : Told) (plan : Plan) → ViewsFrom T views → ToldFrom T call → LearnsOf config views call plan → PlanFrom T plan
  learns_from config views call plan from is (uploads, left, has, waits, same) = planned plan _ same (quiet_from _ (record {
    records = from.records;
    waiting = λ text there. from.waiting text (kept_waiting uploads views.waiting left waits text there);
    proposer_calls = from.proposer_calls;
    learner_calls = each_more (ToldFrom T) views.learner_calls call from.learner_calls is;
  }))

  module _ (proposer : ProposerLaws) (learner : LearnerLaws) (each : EachAsked) where
    body_from : (config : AgreementConfig) (me : ℕ) (views : Views) (sender slot : ℕ) (b : Body) (plan : Plan) → ViewsFrom T views → BodyFrom T b
        → BodyIsDue config me views sender slot b plan → PlanFrom T plan
    body_from config me views sender slot (Prepare ballot) plan from is (old, new, reply, restored, prepares, replies) =
        prepare_from me views old new slot ballot reply plan from restored prepares replies
    body_from config me views sender slot (Promise ballot report) plan from is (accept, answers, same) =
        let promise : Promised_call = record { sender = sender; slot = slot; ballot = ballot; report = report } in
        planned plan (sends_alone (also_proposes views (Promises promise)) (accept_of me accept)) same
        (alone_from (also_proposes views (Promises promise)) (accept_of me accept) (too_from views (Promises promise) from is)
        (accept_from proposer me config.members views.proposer_calls promise accept from.proposer_calls is answers))
    body_from config me views sender slot (Nack ballot promised) plan from is same =
        planned plan (quietly (also_proposes views (Nacks slot ballot))) same (quiet_from (also_proposes views (Nacks slot ballot)) (too_from views (Nacks slot ballot) from tt))
    body_from config me views sender slot (Accept proposal) plan from is (old, new, reply, restored, accepts, replies) =
        accepted_from me views slot proposal reply plan from is replies
    body_from config me views sender slot (Accepted acceptance) plan from is learns =
        learns_from config views (told.Accepted sender slot acceptance.ballot acceptance.value) plan from is learns
    body_from config me views sender slot Ask plan from is (values, prefix, same) =
        planned plan (sends_alone views (asked_of me values slot)) same
        (alone_from views (asked_of me values slot) from (asked_from learner each config.members me slot views.learner_calls values from.learner_calls prefix))
    body_from config me views sender slot (Decided value) plan from is learns = learns_from config views (told.Decided slot value) plan from is learns

    seen_from : (views : Views) (m : Message) → ViewsFrom T views → ViewsFrom T (has_seen views m)
    seen_from views m from = record { records = from.records; waiting = from.waiting; proposer_calls = from.proposer_calls; learner_calls = from.learner_calls }

    -- the uploads that come with an input
    abbrev pub InputFrom : Input → Type 0
    InputFrom (input.Put text) = T text
    InputFrom (input.Tick left) = Unit {0}
    InputFrom (input.Deliver m) = MessageFrom T m

    pub due_from : (config : AgreementConfig) (me : ℕ) (views : Views) (i : Input) (plan : Plan) → ViewsFrom T views → InputFrom i → IsDue config me views i (Plans plan)
        → PlanFrom T plan
    due_from config me views (input.Put text) plan from is due = put_from config views text plan from is due
    due_from config me views (input.Tick left) plan from is due = tick_from config me views left plan from due
    due_from config me views (input.Deliver m) plan from is (is_of, due) =
        body_from config me (has_seen views m) m.sender m.slot m.body plan (seen_from views m from) is due

    -- ---- records that are due

    kept_is : (kept was : Option Record) → kept ≡ was → DueFrom T was → DueFrom T kept
    kept_is kept was same from = subst (DueFrom T) (sym same) from

    due_keeps : (config : AgreementConfig) (me : ℕ) (views : Views) (left : ℕ) (due : Due) → ViewsFrom T views → TickIsDue config me views left due
        → DueFrom T (record_due due)
    due_keeps config me views left (Refuses refusal) from is = tt
    due_keeps config me views left (Plans plan) from is = (tick_from config me views left plan from is).kept

    body_keeps : (records : List Record) (slot : ℕ) (b : Body) (kept : Option Record) → BodyFrom T b → BodyKeeps records slot b kept → DueFrom T kept
    body_keeps records slot (Prepare ballot) kept is (standing, restored, inl (above, same)) = kept_is kept (Some (Promised slot ballot)) same tt
    body_keeps records slot (Prepare ballot) kept is (standing, restored, inr (below, same)) = kept_is kept None same tt
    body_keeps records slot (Accept proposal) kept is (standing, restored, inl (above, same)) = kept_is kept (Some (HasAccepted slot proposal)) same is
    body_keeps records slot (Accept proposal) kept is (standing, restored, inr (below, same)) = kept_is kept None same tt
    body_keeps records slot (Promise ballot report) kept is same = kept_is kept None same tt
    body_keeps records slot (Nack ballot promised) kept is same = kept_is kept None same tt
    body_keeps records slot (Accepted acceptance) kept is same = kept_is kept None same tt
    body_keeps records slot (Decided value) kept is same = kept_is kept None same tt
    body_keeps records slot Ask kept is same = kept_is kept None same tt

    pub kept_from : (config : AgreementConfig) (me : ℕ) (views : Views) (i : Input) (kept : Option Record) → ViewsFrom T views → InputFrom i
        → InputKeeps config me views i kept → DueFrom T kept
    kept_from config me views (input.Put text) kept from is same = kept_is kept None same tt
    kept_from config me views (input.Tick left) kept from is (due, is_due, same) =
        kept_is kept (record_due due) same (due_keeps config me views left due from is_due)
    kept_from config me views (input.Deliver m) kept from is (inl (is_of, keeps)) = body_keeps views.records m.slot m.body kept is keeps
    kept_from config me views (input.Deliver m) kept from is (inr (none, same)) = kept_is kept None same tt
