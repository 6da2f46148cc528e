-- What is due of a node leaves it with what it has to know: of each message that it sends it has a record, and the rules allow
-- the message.
use Rattle.std.proofs.Common.{◌≡◌, ℕ, suc, max, ◌≤◌, ◌⊎◌, inl, inr, List, [], ◌∷◌, ◌++◌, Option, Some, None, refl, sym, subst, arith}
use Rattle.std.specs.List.{Contains}
use Rattle.ballots.specs.Ballot.{Ballot}
use Rattle.ballots.specs.declared.value.Value.{Value}
use Rattle.ballots.specs.declared.acceptance.Acceptance.{Acceptance}
use Rattle.ballots.specs.declared.record.Record.{Record}
use Rattle.ballots.specs.declared.record.Record.TheVariants.{Began, Promised, Accepted as HasAccepted}
use Rattle.ballots.specs.declared.message.Message.{Message}
use Rattle.ballots.specs.declared.message.Body.{Body}
use Rattle.ballots.specs.declared.message.Body.TheVariants as body
use Rattle.ballots.specs.Acceptance.{acceptance}
use Rattle.ballots.specs.Message.{message}
use Rattle.acceptor.specs.Standing.{Standing}
use Rattle.acceptor.specs.declared.answer.Answer.{Answer}
use Rattle.acceptor.specs.declared.answer.Answer.TheVariants as answer
use Rattle.acceptor.specs.Answering.{Prepares, Accepts}
use Rattle.acceptor.specs.Restored.{promise_in, acceptance_in, IsRestored, IsHighestRound, round_in}
use Rattle.proposer.specs.Call.{OneSlot, Begun, Promise, ProposerCall as Asked, Promises, Nacks}
use Rattle.proposer.specs.Choosing.{HasMajority}
use Rattle.proposer.specs.Attempting.{next_ballot, IsOpen, answering, Answers}
use Rattle.learner.specs.Calls.{LearnerCall as Told}
use Rattle.learner.specs.Calls as told
use Rattle.decided_log.specs.Asked.{asked_of}
use Rattle.lawful_histories.specs.Saying.{Saying, saying, of_one, says, sayings}
use Rattle.lawful_histories.specs.Saying as say
use Rattle.agreement_rules.specs.Views.{AgreementConfig, Views, HasPrefix}
use Rattle.agreement_rules.specs.Due.{Plan, Due, Refuses, Plans, Aim, Attempts, AsksFrom, quietly, begins, answers_with, sends_alone, also_proposes, has_seen, accept_of, ReplyToPrepare, ReplyToAccept, AimIsDue, TickIsDue}
use Rattle.histories.specs.Due.{LearnsOf, BodyIsDue, PutIsDue, waits_too, MessageIsDue}
use Rattle.histories.proofs.Lists.{nothing_in, only_one, last_or_before, into_map, last_given}
use Rattle.histories.proofs.Sayings.{WasSaidBefore, OneSays, only_says, of_each_slot, of_its_slot}
use Rattle.histories.proofs.Rules.{AllowsSaying, Allows, AllowsDecided, AreAllowed, one_value_before, accepted_was_proposed, decided_was_chosen}
use Rattle.histories.proofs.Knowing.{IsOwnSaying, IsOwn, CoversSaying, Covers, MayBeKept, MayBeDue, WasProposed, WasTold, KnowsRecords, KnowsCalls, KnowsViews}
use Rattle.histories.proofs.Acceptors.{own_slot, promise_is_allowed, accepted_is_allowed}
use Rattle.histories.proofs.Proposers.{ProposerLaws, promised_too, nacked_too, begun_too, calls_with_record, accept_is_allowed, accept_is_own, complete_now}
use Rattle.histories.proofs.Learners.{LearnerLaw, AskedLaw, TellsChosen, asked_is_chosen, chosen_still}

-- the laws of lower crates that are used
pub record Laws : Type 0 where
  pub proposer : ProposerLaws
  pub learner : LearnerLaw
  pub asked : AskedLaw

-- the records with the one that is due
abbrev pub kept_with : List Record → Option Record → List Record
kept_with records None = records
kept_with records (Some r) = records ++ r ∷ []

-- these messages go out, from this place on: one alone that is allowed, or some that are allowed wherever they stand
abbrev pub MayBeSent : ℕ → List Message → ℕ → List Message → Type 0
MayBeSent members sent next ms =
    ((m : Message) × (ms ≡ m ∷ []) × Allows members (WasSaidBefore sent next) m)
    ⊎ ((m : Message) → Contains ms m → (k : ℕ) → next ≤ k → Allows members (WasSaidBefore sent k) m)

-- what a plan owes
pub record Keeps (members : ℕ) (sent : List Message) (next me : ℕ) (records : List Record) (plan : Plan) : Type 0 where
  pub due : MayBeDue (WasSaidBefore sent next) plan.kept
  pub records_are : plan.after.records ≡ kept_with records plan.kept
  pub covered : (m : Message) → Contains plan.sends m → Covers me plan.after.records m
  pub own : (m : Message) → Contains plan.sends m → IsOwn me m
  pub calls : KnowsViews members (WasSaidBefore sent next) me plan.after
  pub apart : (b : Begun) (since : List Asked) → IsOpen plan.after.proposer_calls b since → (s : ℕ) (v : Value)
      → OneSays plan.sends s (say.Accept b.ballot v) → HasMajority members (answering members b since)
  pub allowed : MayBeSent members sent next plan.sends

abbrev pub KeepsIfPlanned : ℕ → List Message → ℕ → ℕ → List Record → Due → Type 0
KeepsIfPlanned members sent next me records (Refuses refusal) = Unit {0}
KeepsIfPlanned members sent next me records (Plans plan) = Keeps members sent next me records plan

-- ---- a message of one slot

-- nothing is proposed
abbrev IsNoAccept : Saying → Type 0
IsNoAccept say.Silent = Unit {0}
IsNoAccept (say.Prepare b) = Unit {0}
IsNoAccept (say.Promise a b r) = Unit {0}
IsNoAccept (say.Accept b v) = ⊥
IsNoAccept (say.Accepted a b v) = Unit {0}
IsNoAccept (say.Decided v) = Unit {0}

proposes_nothing : (slot : ℕ) (x : Saying) → IsNoAccept x → (s : ℕ) → IsNoAccept (of_one slot s x)
proposes_nothing slot x not = of_each_slot (λ s y. IsNoAccept y) slot x not (λ s. tt)

no_accept : (x : Saying) → IsNoAccept x → (b : Ballot) (v : Value) → x ≡ say.Accept b v → ⊥
no_accept x not b v is = subst IsNoAccept is not

covers_its_slot : (me : ℕ) (records : List Record) (slot : ℕ) (x : Saying) → CoversSaying me records slot x → (s : ℕ) → CoversSaying me records s (of_one slot s x)
covers_its_slot me records slot x covered = of_each_slot (λ s y. CoversSaying me records s y) slot x covered (λ s. tt)

owns_its_slot : (me slot : ℕ) (x : Saying) → IsOwnSaying me x → (s : ℕ) → IsOwnSaying me (of_one slot s x)
owns_its_slot me slot x own = of_each_slot (λ s y. IsOwnSaying me y) slot x own (λ s. tt)

allows_its_slot : (members : ℕ) (WasSaid : ℕ → Saying → Type 0) (slot : ℕ) (x : Saying) → AllowsSaying members (WasSaid slot) x
    → (s : ℕ) → AllowsSaying members (WasSaid s) (of_one slot s x)
allows_its_slot members WasSaid slot x may = of_each_slot (λ s y. AllowsSaying members (WasSaid s) y) slot x may (λ s. tt)

module _ (laws : Laws) (config : AgreementConfig) (sent : List Message) (next me : ℕ) (lawful : AreAllowed config.members sent next)
    (views : Views) (knows : KnowsRecords (WasSaidBefore sent next) me views.records) (calls : KnowsViews config.members (WasSaidBefore sent next) me views) where
  abbrev WasSaid : ℕ → Saying → Type 0
  WasSaid s x = WasSaidBefore sent next s x

  -- nothing is kept or sent, and the node has other calls
  quiet : (after : Views) → after.records ≡ views.records → KnowsViews config.members WasSaid me after → Keeps config.members sent next me views.records (quietly after)
  quiet after same known = record {
    due = tt;
    records_are = same;
    covered = λ m has. absurd (nothing_in m has);
    own = λ m has. absurd (nothing_in m has);
    calls = known;
    apart = λ b since is_open s v (m, has, is). absurd (nothing_in m has);
    allowed = inr (λ m has k le. absurd (nothing_in m has));
  }

  -- one message goes out, and no record is kept
  module _ (after : Views) (m : Message) (same : after.records ≡ views.records) (covered : Covers me views.records m) (own : IsOwn me m) (may : Allows config.members WasSaid m)
      (known : KnowsViews config.members WasSaid me after)
      (apart : (b : Begun) (since : List Asked) → IsOpen after.proposer_calls b since → (s : ℕ) (v : Value) → says m s ≡ say.Accept b.ballot v → HasMajority config.members (answering config.members b since)) where
    one_alone : Keeps config.members sent next me views.records (sends_alone after (m ∷ []))
    one_alone = record {
      due = tt;
      records_are = same;
      covered = λ n has. subst (λ (x : Message). Covers me after.records x) (sym (only_one m n has)) (subst (λ (l : List Record). Covers me l m) (sym same) covered);
      own = λ n has. subst (λ (x : Message). IsOwn me x) (sym (only_one m n has)) own;
      calls = known;
      apart = λ b since is_open s v has. apart b since is_open s v (only_says m s (say.Accept b.ballot v) has);
      allowed = inl (m, refl, may);
    }

  -- one message goes out behind a record
  module _ (r : Record) (m : Message) (may_keep : MayBeKept WasSaid r) (covered : Covers me (views.records ++ r ∷ []) m) (own : IsOwn me m) (may : Allows config.members WasSaid m)
      (not : (s : ℕ) → IsNoAccept (says m s)) where
    behind_record : Keeps config.members sent next me views.records (answers_with views r m)
    behind_record = record {
      due = may_keep;
      records_are = refl;
      covered = λ n has. subst (λ (x : Message). Covers me (views.records ++ r ∷ []) x) (sym (only_one m n has)) covered;
      own = λ n has. subst (λ (x : Message). IsOwn me x) (sym (only_one m n has)) own;
      calls = calls_with_record config.members WasSaid me views.records r views.proposer_calls views.learner_calls calls;
      apart = λ b since is_open s v has. absurd (no_accept (says m s) (not s) b.ballot v (only_says m s (say.Accept b.ballot v) has));
      allowed = inl (m, refl, may);
    }

  -- a message of one slot that proposes nothing goes out, and no record is kept
  module _ (slot : ℕ) (b : Body) (covered : CoversSaying me views.records slot (saying me b)) (own : IsOwnSaying me (saying me b))
      (may : AllowsSaying config.members (WasSaid slot) (saying me b)) (not : IsNoAccept (saying me b)) where
    says_alone : Keeps config.members sent next me views.records (sends_alone views (message me slot b ∷ []))
    says_alone =
        one_alone views (message me slot b) refl (covers_its_slot me views.records slot (saying me b) covered) (owns_its_slot me slot (saying me b) own)
        (allows_its_slot config.members WasSaid slot (saying me b) may) calls
        (λ x since is_open s v is. absurd (no_accept (says (message me slot b) s) (proposes_nothing slot (saying me b) not s) x.ballot v is))

  -- likewise behind a record
  module _ (r : Record) (slot : ℕ) (b : Body) (may_keep : MayBeKept WasSaid r) (covered : CoversSaying me (views.records ++ r ∷ []) slot (saying me b)) (own : IsOwnSaying me (saying me b))
      (may : AllowsSaying config.members (WasSaid slot) (saying me b)) (not : IsNoAccept (saying me b)) where
    says_behind_record : Keeps config.members sent next me views.records (answers_with views r (message me slot b))
    says_behind_record =
        behind_record r (message me slot b) may_keep (covers_its_slot me (views.records ++ r ∷ []) slot (saying me b) covered) (owns_its_slot me slot (saying me b) own)
        (allows_its_slot config.members WasSaid slot (saying me b) may) (proposes_nothing slot (saying me b) not)

  -- ---- a Prepare

  abbrev Kept : Plan → Type 0
  Kept plan = Keeps config.members sent next me views.records plan

  refused : (slot : ℕ) (b c : Ballot) → Kept (sends_alone views (message me slot (body.Nack b c) ∷ []))
  refused slot b c = says_alone slot (body.Nack b c) tt tt tt tt

  of_prepare : (slot : ℕ) (ballot : Ballot) (old new : Standing) (reply : Answer) (plan : Plan) → IsRestored views.records old → Prepares old new slot ballot reply
      → ReplyToPrepare me views slot ballot reply plan → Kept plan
  of_prepare slot ballot old new (answer.Promise report) plan restored prepares is =
      subst Kept (sym is) (says_behind_record (Promised slot ballot) slot (body.Promise ballot report) tt
      (λ own. last_given (promise_in slot) views.records (Promised slot ballot) ballot (own_slot slot ballot)) refl
      (subst (λ (r : Option Acceptance). AllowsSaying config.members (WasSaid slot) (say.Promise me ballot r)) (sym prepares.1)
      (promise_is_allowed WasSaid me views.records old knows restored slot ballot prepares.0)) tt)
  of_prepare slot ballot old new (answer.Nack promised) plan restored prepares is = subst Kept (sym is) (refused slot ballot promised)
  of_prepare slot ballot old new answer.Granted plan restored prepares is = absurd is
  of_prepare slot ballot old new (answer.PromiseFrom reports) plan restored prepares is = absurd is

  -- ---- an Accept

  of_accept : (slot : ℕ) (x : Acceptance) (old new : Standing) (reply : Answer) (plan : Plan) → WasProposed WasSaid slot x → IsRestored views.records old
      → Accepts old new slot x reply → ReplyToAccept me views slot x reply plan → Kept plan
  of_accept slot x old new answer.Granted plan was restored accepts is =
      subst Kept (sym is) (says_behind_record (HasAccepted slot x) slot (body.Accepted x) was
      (λ own. last_given (acceptance_in slot) views.records (HasAccepted slot x) x (own_slot slot x)) refl
      (accepted_is_allowed WasSaid me views.records old knows restored slot x was accepts.0) tt)
  of_accept slot x old new (answer.Nack promised) plan was restored accepts is = subst Kept (sym is) (refused slot x.ballot promised)
  of_accept slot x old new (answer.Promise report) plan was restored accepts is = absurd is
  of_accept slot x old new (answer.PromiseFrom reports) plan was restored accepts is = absurd is

  -- ---- a Promise

  of_promise : (q : Promise) (accept_is : Option (ℕ × Ballot × Value)) → WasSaid q.slot (say.Promise q.sender q.ballot q.report) → Answers config.members views.proposer_calls q accept_is
      → Kept (sends_alone (also_proposes views (Promises q)) (accept_of me accept_is))
  of_promise q None was answers = quiet (also_proposes views (Promises q)) refl (promised_too config.members WasSaid me views.records views.proposer_calls views.learner_calls calls q was)
  of_promise q (Some x) was answers =
      let own = accept_is_own laws.proposer config.members WasSaid me views.records views.proposer_calls views.learner_calls calls q was x answers in
      one_alone (also_proposes views (Promises q)) (message me x.0 (body.Accept (acceptance x.1 x.2))) refl
      (covers_its_slot me views.records x.0 (say.Accept x.1 x.2) (λ e. own.1)) (owns_its_slot me x.0 (say.Accept x.1 x.2) own.0)
      (allows_its_slot config.members WasSaid x.0 (say.Accept x.1 x.2)
      (accept_is_allowed laws.proposer config.members WasSaid me views.records views.proposer_calls views.learner_calls calls q was x answers))
      (promised_too config.members WasSaid me views.records views.proposer_calls views.learner_calls calls q was)
      (λ b since is_open s v is. complete_now laws.proposer config.members WasSaid me views.records views.proposer_calls views.learner_calls calls q was x answers b since is_open)

  -- ---- what its learner is told

  heard_too : (call : Told) → WasTold WasSaid call → KnowsCalls config.members WasSaid me views.records views.proposer_calls (views.learner_calls ++ call ∷ [])
  heard_too call was = record {
    promises = calls.promises;
    begun = calls.begun;
    plain = calls.plain;
    complete = calls.complete;
    told_of = λ c has. elim (last_or_before views.learner_calls call c has) as (λ _. WasTold WasSaid c) [
      | inl there ↦ calls.told_of c there
      | inr last ↦ subst (λ (x : Told). WasTold WasSaid x) (sym last) was
    ];
  }

  of_told : (call : Told) (plan : Plan) → WasTold WasSaid call → LearnsOf config views call plan → Kept plan
  of_told call plan was (uploads, left, has_uploads, waiting, is) =
      subst Kept (sym is) (quiet (record { records = views.records; seen_round = views.seen_round; waiting = left; proposer_calls = views.proposer_calls; learner_calls = views.learner_calls ++ call ∷ [] }) refl (heard_too call was))

  -- ---- an Ask

  proposed_before : (s a : ℕ) (b : Ballot) (v : Value) → WasSaid s (say.Accepted a b v) → WasSaid s (say.Accept b v)
  proposed_before s a b v was = accepted_was_proposed config.members (sayings sent s) next (lawful s) a b v was

  one_value : (s : ℕ) (b : Ballot) (v w : Value) → WasSaid s (say.Accept b v) → WasSaid s (say.Accept b w) → v ≡ w
  one_value s b v w one other = one_value_before config.members (sayings sent s) next (lawful s) b v w one other

  chosen_before : (s : ℕ) (v : Value) → WasSaid s (say.Decided v) → AllowsDecided config.members (WasSaid s) v
  chosen_before s v was = decided_was_chosen config.members (sayings sent s) next (lawful s) v was

  abbrev Tells : Message → Type 0
  Tells m = TellsChosen laws.learner config.members WasSaid proposed_before one_value chosen_before views.learner_calls calls.told_of me m

  told_covers : (m : Message) → Tells m → Covers me views.records m
  told_covers m it = subst (λ (x : Message). Covers me views.records x) (sym it.is) (covers_its_slot me views.records it.slot (say.Decided it.value) tt)

  told_own : (m : Message) → Tells m → IsOwn me m
  told_own m it = subst (λ (x : Message). IsOwn me x) (sym it.is) (owns_its_slot me it.slot (say.Decided it.value) tt)

  told_no_accept : (m : Message) → Tells m → (s : ℕ) → IsNoAccept (says m s)
  told_no_accept m it s = subst (λ (x : Message). IsNoAccept (says x s)) (sym it.is) (proposes_nothing it.slot (say.Decided it.value) tt s)

  told_allowed : (m : Message) → Tells m → (k : ℕ) → next ≤ k → Allows config.members (WasSaidBefore sent k) m
  told_allowed m it k le =
      subst (λ (x : Message). Allows config.members (WasSaidBefore sent k) x) (sym it.is)
      (allows_its_slot config.members (WasSaidBefore sent k) it.slot (say.Decided it.value)
      (chosen_still config.members (WasSaid it.slot) (WasSaidBefore sent k it.slot) it.value (λ x h. (h.0, omega (arith, h.1, le), h.2)) it.chosen_is))

  of_ask : (slot : ℕ) (values : List Value) → HasPrefix config.members views.learner_calls values → Kept (sends_alone views (asked_of me values slot))
  of_ask slot values prefix = record {
    due = tt;
    records_are = refl;
    covered = λ m has. told_covers m (tells m has);
    own = λ m has. told_own m (tells m has);
    calls = calls;
    apart = λ b since is_open s v (m, has, is). absurd (no_accept (says m s) (told_no_accept m (tells m has) s) b.ballot v is);
    allowed = inr (λ m has k le. told_allowed m (tells m has) k le);
  }
    where
      tells : (m : Message) → Contains (asked_of me values slot) m → Tells m
      tells m has =
          asked_is_chosen laws.learner config.members WasSaid proposed_before one_value chosen_before views.learner_calls calls.told_of laws.asked me slot values prefix m has

  -- ---- any message that was sent

  pub of_body : (sender slot : ℕ) (b : Body) (plan : Plan) → ((s : ℕ) → WasSaid s (says (message sender slot b) s)) → BodyIsDue config me views sender slot b plan → Kept plan
  of_body sender slot (body.Prepare ballot) plan was (old, new, reply, restored, prepares, replies) = of_prepare slot ballot old new reply plan restored prepares replies
  of_body sender slot (body.Promise ballot report) plan was (x, answers, is) =
      subst Kept (sym is) (of_promise (record { sender = sender; slot = slot; ballot = ballot; report = report }) x
      (of_its_slot WasSaid slot (say.Promise sender ballot report) was) answers)
  of_body sender slot (body.Nack ballot promised) plan was is =
      subst Kept (sym is) (quiet (also_proposes views (Nacks slot ballot)) refl (nacked_too config.members WasSaid me views.records views.proposer_calls views.learner_calls calls slot ballot))
  of_body sender slot (body.Accept x) plan was (old, new, reply, restored, accepts, replies) =
      of_accept slot x old new reply plan (of_its_slot WasSaid slot (say.Accept x.ballot x.value) was) restored accepts replies
  of_body sender slot (body.Accepted x) plan was learns =
      of_told (told.Accepted sender slot x.ballot x.value) plan (of_its_slot WasSaid slot (say.Accepted sender x.ballot x.value) was) learns
  of_body sender slot body.Ask plan was (values, prefix, is) = subst Kept (sym is) (of_ask slot values prefix)
  of_body sender slot (body.Decided v) plan was learns = of_told (told.Decided slot v) plan (of_its_slot WasSaid slot (say.Decided v) was) learns

  -- ---- a tick

  own_round : (round highest seen : ℕ) → IsHighestRound views.records highest → round ≡ suc (max seen highest)
      → (s : ℕ) (v : Value) → WasSaid s (say.Accept (record { round = round; node = me }) v) → ⊥
  own_round round highest seen is next_is s v was =
      let began : Ballot = record { round = round; node = me } in
      let has : Contains views.records (Began began) = knows.covers s (say.Accept began v) was refl in
      let le : round ≤ highest = is.highest round (into_map round_in views.records (Began began) round refl has) in
      omega (arith, le, next_is)

  -- an attempt of the node's, at whose ballot nothing was proposed
  module _ (slot : ℕ) (value : Value) (ballot : Ballot) (own : ballot.node ≡ me) (fresh : (s : ℕ) (v : Value) → WasSaid s (say.Accept ballot v) → ⊥) where
    abbrev asks : Message
    asks = message me slot (body.Prepare ballot)

    begins_at : Kept (begins me views slot value ballot)
    begins_at = record {
      due = tt;
      records_are = refl;
      covered = λ m has. subst (λ (x : Message). Covers me (views.records ++ Began ballot ∷ []) x) (sym (only_one asks m has))
          (covers_its_slot me (views.records ++ Began ballot ∷ []) slot (say.Prepare ballot) tt);
      own = λ m has. subst (λ (x : Message). IsOwn me x) (sym (only_one asks m has)) (owns_its_slot me slot (say.Prepare ballot) tt);
      calls = begun_too config.members WasSaid me views.records views.proposer_calls views.learner_calls calls (record { slot = slot; reach = OneSlot; seen_round = views.seen_round; candidate = value; ballot = ballot }) own refl fresh;
      apart = λ b since is_open s v has. absurd (no_accept (says asks s) (proposes_nothing slot (say.Prepare ballot) tt s) b.ballot v (only_says asks s (say.Accept b.ballot v) has));
      allowed = inl (asks, refl, allows_its_slot config.members WasSaid slot (say.Prepare ballot) tt);
    }

  of_attempt : (slot : ℕ) (value : Value) (highest : ℕ) → IsHighestRound views.records highest → Kept (begins me views slot value (next_ballot me highest views.seen_round))
  of_attempt slot value highest is =
      begins_at slot value (next_ballot me highest views.seen_round) refl
      (λ s v was. own_round (suc (max views.seen_round highest)) highest views.seen_round is refl s v was)

  asks_alone : (slot : ℕ) → Kept (sends_alone views (message me slot body.Ask ∷ []))
  asks_alone slot = says_alone slot body.Ask tt tt tt tt

  of_aim : (aim : Aim) (due : Due) → AimIsDue config me views aim due → KeepsIfPlanned config.members sent next me views.records due
  of_aim (Attempts slot value) (Refuses refusal) is = tt
  of_aim (Attempts slot value) (Plans plan) (highest, within, is_highest, left, is) = subst Kept (sym is) (of_attempt slot value highest is_highest)
  of_aim (AsksFrom slot) (Refuses refusal) is = tt
  of_aim (AsksFrom slot) (Plans plan) (inl (within, is)) = subst Kept (sym is) (asks_alone slot)
  of_aim (AsksFrom slot) (Plans plan) (inr (spent, is)) = subst Kept (sym is) (quiet views refl calls)

  pub of_tick : (left : ℕ) (due : Due) → TickIsDue config me views left due → KeepsIfPlanned config.members sent next me views.records due
  of_tick left due (inl (over, is)) = subst (λ (d : Due). KeepsIfPlanned config.members sent next me views.records d) (sym is) tt
  of_tick left due (inr (aim, within, is_aim, aim_is)) = of_aim aim due aim_is

  -- ---- a put

  pub of_put : (text : List ℕ) (due : Due) → PutIsDue config views text due → KeepsIfPlanned config.members sent next me views.records due
  of_put text (Refuses refusal) is = tt
  of_put text (Plans plan) (inl (known, is)) = subst Kept (sym is) (quiet views refl calls)
  of_put text (Plans plan) (inr (not, unknown, left, is)) = subst Kept (sym is) (quiet (waits_too views text) refl calls)

-- a message that was sent, by a node that has seen its round
pub of_message : (laws : Laws) (config : AgreementConfig) (sent : List Message) (next me : ℕ) → AreAllowed config.members sent next
    → (views : Views) → KnowsRecords (WasSaidBefore sent next) me views.records → KnowsViews config.members (WasSaidBefore sent next) me views
    → (m : Message) (due : Due) → ((s : ℕ) → WasSaidBefore sent next s (says m s)) → MessageIsDue config me views m due → KeepsIfPlanned config.members sent next me views.records due
of_message laws config sent next me lawful views knows calls m (Refuses refusal) was is = tt
of_message laws config sent next me lawful views knows calls m (Plans plan) was is =
    of_body laws config sent next me lawful (has_seen views m) knows calls m.sender m.slot m.body plan was is.1
