-- What a node makes of promises and refusals, and what it tells one that asks, is what is due.
use Rattle.std.proofs.Common.{◌≡◌, inl, inr, ℕ, ◌<◌, Option, List, [], ◌∷◌, length, refl, ap, subst, ◌∙◌}
use Rattle.ballots.specs.Ballot.{Ballot}
use Rattle.ballots.specs.declared.value.Value.{Value}
use Rattle.ballots.specs.declared.acceptance.Acceptance.{Acceptance}
use Rattle.ballots.specs.declared.message.Message.{Message}
use Rattle.ballots.specs.declared.message.Body.TheVariants as body
use Rattle.ballots.specs.Message.{message}
use Rattle.proposer.specs.Call.{Start}
use Rattle.proposer.specs.Call.{ProposerCall}
use Rattle.proposer.specs.Attempting.{Answers}
use Rattle.proposer.specs.State.{StateAfter as ProposerAfter}
use Rattle.decided_log.specs.Asked.{asked_of}
use Rattle.decided_log.specs.Decided.{IsPrefix}
use Rattle.decided_log.specs.LogState.{decided_at}
use Rattle.agreement_rules.specs.Views.{Views, with_seen_round, HasPrefix}
use Rattle.agreement_rules.specs.Due.{accept_of, AsksAt}
use Rattle.agreement.specs.declared.step.Change.TheVariants.{Nothing, Promised, Refused}
use Rattle.agreement.specs.declared.step.AgreementStep.{AgreementStep as Step}
use Rattle.agreement.specs.State.{AgreementState, Has}
use Rattle.agreement.specs.Step.{Sends, StepIsDue, AskGives, plan_of}
use Rattle.agreement.proofs.Answering.{plan_is, grows_nothing}
use Rattle.agreement.proofs.Knowing.{LearnsJust, prefix_has}

pub promised_gives : (state : AgreementState) (seen sender slot : ℕ) (ballot : Ballot) (report : Option Acceptance) (accept : Option (ℕ × Ballot × Value)) (step : Step)
    → ((start : Start) (calls : List ProposerCall) → ProposerAfter start calls state.proposer
    → Answers start.members calls (record { sender = sender; slot = slot; ballot = ballot; report = report }) accept)
    → Sends step (accept_of state.me accept) seen (Promised sender slot ballot report) → StepIsDue state seen sender slot (body.Promise ballot report) step
promised_gives state seen sender slot ballot report accept step answers it = (
  it.seen_is,
  λ views has. (
    (
      accept,
      answers (record { me = state.me; members = state.config.members; highest_round = has.first_round }) views.proposer_calls has.proposer_calls,
      plan_is views step (Promised sender slot ballot report) (accept_of state.me accept) seen it.change_is it.sends_are it.seen_is,
    ),
    grows_nothing state.config.members (with_seen_round views seen) step (Promised sender slot ballot report) it.change_is refl it.grown_is,
  ),
)

pub refused_gives : (state : AgreementState) (seen sender slot : ℕ) (ballot promised : Ballot) (step : Step)
    → Sends step [] seen (Refused slot ballot) → StepIsDue state seen sender slot (body.Nack ballot promised) step
refused_gives state seen sender slot ballot promised step it = (
  it.seen_is,
  λ views has. (
    plan_is views step (Refused slot ballot) [] seen it.change_is it.sends_are it.seen_is,
    grows_nothing state.config.members (with_seen_round views seen) step (Refused slot ballot) it.change_is refl it.grown_is,
  ),
)

-- ---- an Ask

pub asked_gives : LearnsJust → (state : AgreementState) (seen sender slot : ℕ) (values : List Value) (messages : List Message) (step : Step)
    → IsPrefix (decided_at state.log) values → messages ≡ asked_of state.log.node values slot → Sends step messages seen Nothing
    → StepIsDue state seen sender slot body.Ask step
asked_gives just state seen sender slot values messages step prefix are it = (
  it.seen_is,
  λ views has. (
    (
      values,
      prefix_has just state views has values prefix,
      plan_is views step Nothing (asked_of state.me values slot) seen it.change_is (it.sends_are ∙ are ∙ ap (λ (n : ℕ). asked_of n values slot) has.log_is) it.seen_is,
    ),
    grows_nothing state.config.members (with_seen_round views seen) step Nothing it.change_is refl it.grown_is,
  ),
)

-- ---- one's own Ask

pub question_gives : (state : AgreementState) (slot : ℕ) (step : Step)
    → ((views : Views) (values : List Value) → Has state views → HasPrefix state.config.members views.learner_calls values → (slot ≡ length values) × (slot < state.config.slot_limit))
    → Sends step (message state.me slot body.Ask ∷ []) state.seen_round Nothing → AskGives state step
question_gives state slot step free it views values has prefix =
    let at = free views values has prefix in
    subst (λ (s : ℕ). AsksAt state.config state.me views s (plan_of views step)) at.0
    (inl (
      at.1,
      plan_is views step Nothing (message state.me slot body.Ask ∷ []) views.seen_round it.change_is it.sends_are (it.seen_is ∙ has.seen),
    ))

pub no_question_gives : (state : AgreementState) (step : Step)
    → ((views : Views) (values : List Value) → Has state views → HasPrefix state.config.members views.learner_calls values → length values ≡ state.config.slot_limit)
    → Sends step [] state.seen_round Nothing → AskGives state step
no_question_gives state step all it views values has prefix =
    inr (all views values has prefix, plan_is views step Nothing [] views.seen_round it.change_is it.sends_are (it.seen_is ∙ has.seen))
