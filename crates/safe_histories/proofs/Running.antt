-- A node is up exactly where a history shows that it runs, and its learner was told what the history shows that it heard_since_restart.
use Rattle.std.proofs.Common.{◌≡◌, ℕ, inl, inr, ◌||◌, Bool, true, false, List, [], ◌∷◌, ◌++◌, Option, None, refl, sym, ap, ap₂, ◌∙◌}
use Rattle.std.specs.List.{filter_map, cons_option, list_any}
use Rattle.std.proofs.lemmas.List.{append-nil}
use Rattle.std.proofs.lemmas.List.Elements.{filter_map-append}
use Rattle.ballots.specs.declared.message.Message.{Message}
use Rattle.ballots.specs.declared.message.Body.{Body}
use Rattle.ballots.specs.declared.message.Body.TheVariants as body
use Rattle.ballots.specs.declared.record.Record.{Record}
use Rattle.acceptor.specs.declared.answer.Answer.{Answer}
use Rattle.acceptor.specs.declared.answer.Answer.TheVariants as answer
use Rattle.ballots.specs.Ballot.{Ballot}
use Rattle.ballots.specs.declared.acceptance.Acceptance.{Acceptance}
use Rattle.histories.specs.History.{Step}
use Rattle.agreement_rules.specs.Views.{AgreementConfig, Views, started_with}
use Rattle.agreement_rules.specs.Due.{Due, Plan, Refuses, Plans, Aim, Attempts, AsksFrom, AsksAt, AimIsDue, TickIsDue, ReplyToPrepare, ReplyToAccept, has_seen}
use Rattle.histories.specs.Due.{PutIsDue, BodyIsDue, MessageIsDue}
use Rattle.agreement_rules.specs.Due as due
use Rattle.histories.specs.Following.{UpOrDown, IsUp, IsDown}
use Rattle.safe_histories.specs.Learning.{brings_up, brings_down, since_restart, Runs, delivered_in, heard_since_restart}
use Rattle.safe_histories.proofs.Heard.{call_of, call_in, calls_of}
use Rattle.safe_histories.proofs.Restarts.{restart_here, heard_more, downs_more, Elsewhere}

-- ---- what a plan tells the learner

pub put_tells : (config : AgreementConfig) (views : Views) (text : List ℕ) (plan : Plan) → PutIsDue config views text (Plans plan) → plan.after.learner_calls ≡ views.learner_calls
put_tells config views text plan (inl (known, is)) = ap (λ (p : Plan). p.after.learner_calls) is
put_tells config views text plan (inr (new, unknown, left, is)) = ap (λ (p : Plan). p.after.learner_calls) is

asks_tells : (config : AgreementConfig) (me : ℕ) (views : Views) (slot : ℕ) (plan : Plan) → AsksAt config me views slot plan → plan.after.learner_calls ≡ views.learner_calls
asks_tells config me views slot plan (inl (lt, is)) = ap (λ (p : Plan). p.after.learner_calls) is
asks_tells config me views slot plan (inr (last, is)) = ap (λ (p : Plan). p.after.learner_calls) is

aim_tells : (config : AgreementConfig) (me : ℕ) (views : Views) (aim : Aim) (plan : Plan) → AimIsDue config me views aim (Plans plan) → plan.after.learner_calls ≡ views.learner_calls
aim_tells config me views (Attempts slot value) plan (highest, lt, is_highest, less, is) = ap (λ (p : Plan). p.after.learner_calls) is
aim_tells config me views (AsksFrom slot) plan asks = asks_tells config me views slot plan asks

pub refused_plan : (r : due.Refusal) (plan : Plan) → (let d : Due = Plans plan in d) ≡ Refuses r → ⊥
refused_plan r plan same = cc

pub tick_tells : (config : AgreementConfig) (me : ℕ) (views : Views) (left : ℕ) (plan : Plan) → TickIsDue config me views left (Plans plan) → plan.after.learner_calls ≡ views.learner_calls
tick_tells config me views left plan (inl (more, is)) = absurd (refused_plan due.OutOfRange plan is)
tick_tells config me views left plan (inr (aim, le, is_aim, is)) = aim_tells config me views aim plan is

prepare_tells : (me : ℕ) (views : Views) (slot : ℕ) (ballot : Ballot) (reply : Answer) (plan : Plan) → ReplyToPrepare me views slot ballot reply plan
    → plan.after.learner_calls ≡ views.learner_calls
prepare_tells me views slot ballot (answer.Promise report) plan is = ap (λ (p : Plan). p.after.learner_calls) is
prepare_tells me views slot ballot (answer.Nack promised) plan is = ap (λ (p : Plan). p.after.learner_calls) is
prepare_tells me views slot ballot answer.Granted plan never = absurd never
prepare_tells me views slot ballot (answer.PromiseFrom reports) plan never = absurd never

accept_tells : (me : ℕ) (views : Views) (slot : ℕ) (proposal : Acceptance) (reply : Answer) (plan : Plan) → ReplyToAccept me views slot proposal reply plan
    → plan.after.learner_calls ≡ views.learner_calls
accept_tells me views slot proposal answer.Granted plan is = ap (λ (p : Plan). p.after.learner_calls) is
accept_tells me views slot proposal (answer.Nack promised) plan is = ap (λ (p : Plan). p.after.learner_calls) is
accept_tells me views slot proposal (answer.Promise report) plan never = absurd never
accept_tells me views slot proposal (answer.PromiseFrom reports) plan never = absurd never

body_tells : (config : AgreementConfig) (me : ℕ) (views : Views) (sender slot : ℕ) (b : Body) (plan : Plan) → BodyIsDue config me views sender slot b plan
    → plan.after.learner_calls ≡ views.learner_calls ++ cons_option (call_of sender slot b) []
body_tells config me views sender slot (body.Prepare ballot) plan (old, new, reply, restored, prepares, is) =
    prepare_tells me views slot ballot reply plan is ∙ sym (append-nil views.learner_calls)
body_tells config me views sender slot (body.Promise ballot report) plan (accept, answers, is) = ap (λ (p : Plan). p.after.learner_calls) is ∙ sym (append-nil views.learner_calls)
body_tells config me views sender slot (body.Nack ballot promised) plan is = ap (λ (p : Plan). p.after.learner_calls) is ∙ sym (append-nil views.learner_calls)
body_tells config me views sender slot (body.Accept proposal) plan (old, new, reply, restored, accepts, is) =
    accept_tells me views slot proposal reply plan is ∙ sym (append-nil views.learner_calls)
body_tells config me views sender slot (body.Accepted acceptance) plan (uploads, left, has, waits, is) = ap (λ (p : Plan). p.after.learner_calls) is
body_tells config me views sender slot body.Ask plan (values, prefix, is) = ap (λ (p : Plan). p.after.learner_calls) is ∙ sym (append-nil views.learner_calls)
body_tells config me views sender slot (body.Decided value) plan (uploads, left, has, waits, is) = ap (λ (p : Plan). p.after.learner_calls) is

pub message_tells : (config : AgreementConfig) (me : ℕ) (views : Views) (m : Message) (plan : Plan) → MessageIsDue config me views m (Plans plan)
    → plan.after.learner_calls ≡ views.learner_calls ++ calls_of (m ∷ [])
message_tells config me views m plan (is_of, is) = body_tells config me (has_seen views m) m.sender m.slot m.body plan is

-- ---- a seat is as the history shows

module _ (sent : List Message) where
  abbrev pub Agrees : List Step → ℕ → UpOrDown → Type 0
  Agrees done node (IsUp views) = Runs node done × (views.learner_calls ≡ calls_of (heard_since_restart sent done node))
  Agrees done node (IsDown records due) = list_any (brings_down node) (since_restart node done) ≡ true

  pub restarted : (done : List Step) (node : ℕ) (step : Step) (records : List Record) → brings_up node step ≡ true
      → Agrees (done ++ step ∷ []) node (IsUp (started_with records))
  restarted done node step records is =
      let none = restart_here node done step is in
      (ap (list_any (brings_down node)) none, sym (ap (λ l. calls_of (filter_map (delivered_in sent node) l)) none))

  pub goes_on : (done : List Step) (node : ℕ) (step : Step) (views after : Views) (o : Option Message) → brings_up node step ≡ false → brings_down node step ≡ false
      → delivered_in sent node step ≡ o → after.learner_calls ≡ views.learner_calls ++ calls_of (cons_option o []) → Agrees done node (IsUp views)
      → Agrees (done ++ step ∷ []) node (IsUp after)
  goes_on done node step views after o no_up no_down delivered told (runs, are) = (
    downs_more node done step no_up ∙ ap₂ (λ a b. a || b) runs no_down,
    told ∙ ap₂ (λ l p. l ++ calls_of (cons_option p [])) are (sym delivered)
        ∙ sym (ap calls_of (heard_more sent node done step no_up) ∙ filter_map-append call_in (heard_since_restart sent done node) (cons_option (delivered_in sent node step) [])),
  )

  pub goes_down : (done : List Step) (node : ℕ) (step : Step) (records : List Record) (due : Option Record) → brings_up node step ≡ false
      → brings_down node step ≡ true → Agrees (done ++ step ∷ []) node (IsDown records due)
  goes_down done node step records due no_up is =
      downs_more node done step no_up ∙ ap (λ b. list_any (brings_down node) (since_restart node done) || b) is
      ∙ or_true (list_any (brings_down node) (since_restart node done))
    where
      or_true : (b : Bool) → (b || true) ≡ true
      or_true true = refl
      or_true false = refl

  pub stays_down : (done : List Step) (node : ℕ) (step : Step) (records : List Record) (due : Option Record) → brings_up node step ≡ false
      → list_any (brings_down node) (since_restart node done) ≡ true → Agrees (done ++ step ∷ []) node (IsDown records due)
  stays_down done node step records due no_up was =
      downs_more node done step no_up ∙ ap (λ b. b || brings_down node step) was

  -- ---- steps of other nodes

  pub others_agree : (done : List Step) (node : ℕ) (step : Step) (seat : UpOrDown) → Elsewhere sent node step → Agrees done node seat → Agrees (done ++ step ∷ []) node seat
  others_agree done node step (IsUp views) away agrees =
      goes_on done node step views views None away.no_restart away.no_cut away.nothing (sym (append-nil views.learner_calls)) agrees
  others_agree done node step (IsDown records due) away agrees = stays_down done node step records due away.no_restart agrees
