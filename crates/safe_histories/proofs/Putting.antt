-- Values whose uploads are of some texts: in messages, in records, and in what a node has.
use Rattle.std.proofs.Common.{ℕ, inl, inr, List, [], ◌∷◌, ◌++◌, Option, Some, None, subst}
use Rattle.ballots.specs.declared.value.Value.{Value}
use Rattle.ballots.specs.declared.value.Value.TheVariants.{Noop, Upload as UploadValue}
use Rattle.ballots.specs.declared.acceptance.Acceptance.{Acceptance}
use Rattle.ballots.specs.declared.record.Record.{Record}
use Rattle.ballots.specs.declared.record.Record.TheVariants.{Began, Promised, Accepted as HasAccepted, PromisedFrom}
use Rattle.ballots.specs.declared.message.Message.{Message}
use Rattle.ballots.specs.declared.message.Body.{Body}
use Rattle.ballots.specs.declared.message.Body.TheVariants.{Prepare, Promise, Nack, Accept, Accepted, Ask, Decided}
use Rattle.proposer.specs.Call.{ProposerCall as Asked, Begins, Promises, PromisesFrom, GoesOn, Nacks}
use Rattle.proposer.specs.Reporting.{report_of}
use Rattle.learner.specs.Calls.{LearnerCall as Told, value_in}
use Rattle.agreement_rules.specs.Views.{Views, started_with}
use Rattle.agreement_rules.specs.Due.{Plan}
use Rattle.histories.specs.Following.{UpOrDown, IsUp, IsDown}
use Rattle.safe_histories.proofs.Lists.{In, in_cases}

-- ---- each element

abbrev pub Each : {X : Type 0} → (X → Type 0) → List X → Type 0
Each {X} P xs = (x : X) → In xs x → P x

pub each_none : {X : Type 0} (P : X → Type 0) → Each P []
each_none P = λ x there. absurd there

pub each_one : {X : Type 0} (P : X → Type 0) (x : X) → P x → Each P (x ∷ [])
each_one P x is = λ y there. by_cases y there
  where
    by_cases : (y : _) → In (x ∷ []) y → P y
    by_cases y (inl same) = subst P same is
    by_cases y (inr none) = absurd none

pub each_both : {X : Type 0} (P : X → Type 0) (xs ys : List X) → Each P xs → Each P ys → Each P (xs ++ ys)
each_both P xs ys front back = λ x there. elim (in_cases xs ys x there) as (λ _. P x) [ inl here ↦ front x here | inr later ↦ back x later ]

pub each_more : {X : Type 0} (P : X → Type 0) (xs : List X) (x : X) → Each P xs → P x → Each P (xs ++ x ∷ [])
each_more P xs x all is = each_both P xs (x ∷ []) all (each_one P x is)

pub each_weaker : {X : Type 0} (P Q : X → Type 0) (xs : List X) → ((x : X) → P x → Q x) → Each P xs → Each Q xs
each_weaker P Q xs weaker all = λ x there. weaker x (all x there)

-- ---- uploads of these texts

module _ (T : List ℕ → Type 0) where
  abbrev pub ValueFrom : Value → Type 0
  ValueFrom Noop = Unit {0}
  ValueFrom (UploadValue text) = T text

  abbrev pub ReportFrom : Option Acceptance → Type 0
  ReportFrom None = Unit {0}
  ReportFrom (Some report) = ValueFrom report.value

  abbrev pub BodyFrom : Body → Type 0
  BodyFrom (Prepare ballot) = Unit {0}
  BodyFrom (Promise ballot report) = ReportFrom report
  BodyFrom (Nack ballot promised) = Unit {0}
  BodyFrom (Accept proposal) = ValueFrom proposal.value
  BodyFrom (Accepted acceptance) = ValueFrom acceptance.value
  BodyFrom Ask = Unit {0}
  BodyFrom (Decided value) = ValueFrom value

  abbrev pub MessageFrom : Message → Type 0
  MessageFrom m = BodyFrom m.body

  abbrev pub RecordFrom : Record → Type 0
  RecordFrom (Began ballot) = Unit {0}
  RecordFrom (Promised slot ballot) = Unit {0}
  RecordFrom (HasAccepted slot acceptance) = ValueFrom acceptance.value
  RecordFrom (PromisedFrom first ballot) = Unit {0}

  abbrev pub AskedFrom : Asked → Type 0
  AskedFrom (Begins begun) = ValueFrom begun.candidate
  AskedFrom (Promises promise) = ReportFrom promise.report
  AskedFrom (PromisesFrom promise) = (slot : ℕ) → ReportFrom (report_of slot promise.reports)
  AskedFrom (GoesOn candidate) = ValueFrom candidate
  AskedFrom (Nacks slot ballot) = Unit {0}

  abbrev pub ToldFrom : Told → Type 0
  ToldFrom call = ValueFrom (value_in call)

  abbrev pub DueFrom : Option Record → Type 0
  DueFrom None = Unit {0}
  DueFrom (Some due) = RecordFrom due

  pub record ViewsFrom (views : Views) : Type 0 where
    pub records : Each RecordFrom views.records
    pub waiting : Each T views.waiting
    pub proposer_calls : Each AskedFrom views.proposer_calls
    pub learner_calls : Each ToldFrom views.learner_calls

  abbrev pub SeatFrom : UpOrDown → Type 0
  SeatFrom (IsUp views) = ViewsFrom views
  SeatFrom (IsDown records due) = Each RecordFrom records × DueFrom due

  pub record PlanFrom (plan : Plan) : Type 0 where
    pub kept : DueFrom plan.kept
    pub sends : Each MessageFrom plan.sends
    pub after : ViewsFrom plan.after

  pub started_from : (records : List Record) → Each RecordFrom records → ViewsFrom (started_with records)
  started_from records are = record { records = are; waiting = each_none T; proposer_calls = each_none AskedFrom; learner_calls = each_none ToldFrom }

-- ---- more texts

module _ (T U : List ℕ → Type 0) (more : (text : List ℕ) → T text → U text) where
  value_more : (value : Value) → ValueFrom T value → ValueFrom U value
  value_more Noop is = tt
  value_more (UploadValue text) is = more text is

  report_more : (report : Option Acceptance) → ReportFrom T report → ReportFrom U report
  report_more None is = tt
  report_more (Some report) is = value_more report.value is

  body_more : (b : Body) → BodyFrom T b → BodyFrom U b
  body_more (Prepare ballot) is = tt
  body_more (Promise ballot report) is = report_more report is
  body_more (Nack ballot promised) is = tt
  body_more (Accept proposal) is = value_more proposal.value is
  body_more (Accepted acceptance) is = value_more acceptance.value is
  body_more Ask is = tt
  body_more (Decided value) is = value_more value is

  pub message_more : (m : Message) → MessageFrom T m → MessageFrom U m
  message_more m is = body_more m.body is

  record_more : (r : Record) → RecordFrom T r → RecordFrom U r
  record_more (Began ballot) is = tt
  record_more (Promised slot ballot) is = tt
  record_more (HasAccepted slot acceptance) is = value_more acceptance.value is
  record_more (PromisedFrom first ballot) is = tt

  asked_more : (call : Asked) → AskedFrom T call → AskedFrom U call
  asked_more (Begins begun) is = value_more begun.candidate is
  asked_more (Promises promise) is = report_more promise.report is
  asked_more (PromisesFrom promise) is = λ slot. report_more (report_of slot promise.reports) (is slot)
  asked_more (GoesOn candidate) is = value_more candidate is
  asked_more (Nacks slot ballot) is = tt

  told_more : (call : Told) → ToldFrom T call → ToldFrom U call
  told_more call is = value_more (value_in call) is

  due_more : (due : Option Record) → DueFrom T due → DueFrom U due
  due_more None is = tt
  due_more (Some due) is = record_more due is

  pub views_more : (views : Views) → ViewsFrom T views → ViewsFrom U views
  views_more views is = record {
    records = each_weaker (RecordFrom T) (RecordFrom U) views.records record_more is.records;
    waiting = each_weaker T U views.waiting more is.waiting;
    proposer_calls = each_weaker (AskedFrom T) (AskedFrom U) views.proposer_calls asked_more is.proposer_calls;
    learner_calls = each_weaker (ToldFrom T) (ToldFrom U) views.learner_calls told_more is.learner_calls;
  }

  pub seat_more : (seat : UpOrDown) → SeatFrom T seat → SeatFrom U seat
  seat_more (IsUp views) is = views_more views is
  seat_more (IsDown records due) is = (each_weaker (RecordFrom T) (RecordFrom U) records record_more is.0, due_more due is.1)
