-- What an acceptor's answer makes its node send is what is due.
use Rattle.std.proofs.Common.{◌≡◌, ℕ, max, Bool, cond, nat_eq, Option, Some, Ok, List, [], ◌∷◌, ◌++◌, refl, sym, ap, subst, ◌∙◌, eq-eqb, ne_eqb}
use Rattle.std.proofs.lemmas.List.{append-nil}
use Rattle.ballots.specs.Ballot.{Ballot, IsBelow, IsAbove, IsAtLeast}
use Rattle.ballots.specs.declared.value.Value.{Value}
use Rattle.ballots.specs.declared.acceptance.Acceptance.{Acceptance}
use Rattle.ballots.specs.declared.message.Message.{Message}
use Rattle.ballots.specs.declared.message.Body.TheVariants as body
use Rattle.ballots.specs.declared.record.Record.TheVariants as kept_as
use Rattle.ballots.specs.Message.{message}
use Rattle.acceptor.specs.Standing.{Standing, Sets, IsSame}
use Rattle.acceptor.specs.AcceptorState.{standing, promised_at, accepted_at}
use Rattle.acceptor.specs.declared.answer.Answer.TheVariants as answer
use Rattle.learner.specs.Calls.{LearnerCall}
use Rattle.agreement_rules.specs.Views.{Views, with_seen_round, HasPrefix}
use Rattle.agreement_rules.specs.Due.{Plan, IsMessageOf, round_in}
use Rattle.agreement.specs.declared.step.Change.{Change}
use Rattle.agreement.specs.declared.step.Change.TheVariants.{Nothing, Answered}
use Rattle.agreement.specs.declared.step.AgreementStep.{AgreementStep as Step}
use Rattle.agreement.specs.State.{AgreementState}
use Rattle.agreement.specs.Step.{Sends, BodyGives, StepIsDue, MessageGives, kept_of, left_by, learner_calls_with, Grows, plan_of}

-- ---- a slot that is set

abbrev put_at : {X : Type 0} → (ℕ → Option X) → ℕ → X → ℕ → Option X
put_at old slot x s = cond (nat_eq s slot) (Some x) (old s)

put_here : {X : Type 0} (old : ℕ → Option X) (slot : ℕ) (x : X) → put_at old slot x slot ≡ Some x
put_here old slot x = ap (λ (b : Bool). cond b (Some x) (old slot)) (eq-eqb slot slot refl)

put_others : {X : Type 0} (old : ℕ → Option X) (slot : ℕ) (x : X) (s : ℕ) → (s ≡ slot → ⊥) → put_at old slot x s ≡ old s
put_others old slot x s apart = ap (λ (b : Bool). cond b (Some x) (old s)) (ne_eqb s slot apart)

-- how it stands after a promise, and after a grant
abbrev promised_to : Standing → ℕ → Ballot → Standing
promised_to old slot ballot = record { promised = put_at old.promised slot ballot; accepted = old.accepted }

abbrev granted_to : Standing → ℕ → Acceptance → Standing
granted_to old slot proposal = record { promised = put_at old.promised slot proposal.ballot; accepted = put_at old.accepted slot proposal }

promise_sets : (old : Standing) (slot : ℕ) (ballot : Ballot) → Sets old (promised_to old slot ballot) slot ballot (old.accepted slot)
promise_sets old slot ballot = record {
  promises = record { here = put_here old.promised slot ballot; others = put_others old.promised slot ballot };
  acceptances = record { here = refl; others = λ s apart. refl };
}

grant_sets : (old : Standing) (slot : ℕ) (proposal : Acceptance) → Sets old (granted_to old slot proposal) slot proposal.ballot (Some proposal)
grant_sets old slot proposal = record {
  promises = record { here = put_here old.promised slot proposal.ballot; others = put_others old.promised slot proposal.ballot };
  acceptances = record { here = put_here old.accepted slot proposal; others = put_others old.accepted slot proposal };
}

stays : (old : Standing) → IsSame old old
stays old = record { promises = λ s. refl; acceptances = λ s. refl }

-- ---- the plan of a step, by its parts

abbrev planned : Views → Change → List Message → ℕ → Plan
planned views change sends seen = record { kept = kept_of change; sends = sends; after = left_by views seen change }

pub plan_is : (views : Views) (step : Step) (change : Change) (sends : List Message) (seen : ℕ) → step.change ≡ change → step.sends.items ≡ sends
    → step.seen_round ≡ seen → plan_of views step ≡ planned views change sends seen
plan_is views step change sends seen same-change same-sends same-seen =
    ap (λ (c : Change). planned views c step.sends.items step.seen_round) same-change
    ∙ ap (λ (l : List Message). planned views change l step.seen_round) same-sends
    ∙ ap (λ (n : ℕ). planned views change sends n) same-seen

-- ---- how the prefix grows

pub grows_by_none : (members : ℕ) (before after : List LearnerCall) (grown : List Value) → after ≡ before → grown ≡ [] → Grows members before after grown
grows_by_none members before after grown same none values prefix =
    subst (λ (l : List Value). HasPrefix members after (values ++ l)) (sym none)
    (subst (HasPrefix members after) (sym (append-nil values)) (subst (λ (l : List LearnerCall). HasPrefix members l values) (sym same) prefix))

-- a step whose change makes no call of the learner leaves the prefix as it is
pub grows_nothing : (members : ℕ) (views : Views) (step : Step) (change : Change) → step.change ≡ change → learner_calls_with views change ≡ views.learner_calls
    → step.grown.items ≡ [] → Grows members views.learner_calls (plan_of views step).after.learner_calls step.grown.items
grows_nothing members views step change is quiet none =
    grows_by_none members views.learner_calls (learner_calls_with views step.change) step.grown.items (ap (λ (c : Change). learner_calls_with views c) is ∙ quiet) none

-- ---- what is due

pub promise_gives : (state : AgreementState) (seen sender slot : ℕ) (ballot : Ballot) (report : Option Acceptance) (step : Step)
    → IsAbove ballot (promised_at state.acceptor slot) → report ≡ accepted_at state.acceptor slot
    → Sends step (message state.me slot (body.Promise ballot report) ∷ []) seen (Answered (kept_as.Promised slot ballot)) → StepIsDue state seen sender slot (body.Prepare ballot) step
promise_gives state seen sender slot ballot report step above is it = (
  it.seen_is,
  λ views has. (
    (
      standing state.acceptor,
      promised_to (standing state.acceptor) slot ballot,
      answer.Promise report,
      has.restored,
      (above, is, promise_sets (standing state.acceptor) slot ballot),
      plan_is views step (Answered (kept_as.Promised slot ballot)) (message state.me slot (body.Promise ballot report) ∷ []) seen it.change_is it.sends_are it.seen_is,
    ),
    grows_nothing state.config.members (with_seen_round views seen) step (Answered (kept_as.Promised slot ballot)) it.change_is refl it.grown_is,
  ),
)

pub grant_gives : (state : AgreementState) (seen sender slot : ℕ) (proposal : Acceptance) (step : Step)
    → IsAtLeast proposal.ballot (promised_at state.acceptor slot)
    → Sends step (message state.me slot (body.Accepted proposal) ∷ []) seen (Answered (kept_as.Accepted slot proposal)) → StepIsDue state seen sender slot (body.Accept proposal) step
grant_gives state seen sender slot proposal step at_least it = (
  it.seen_is,
  λ views has. (
    (
      standing state.acceptor,
      granted_to (standing state.acceptor) slot proposal,
      answer.Granted,
      has.restored,
      (at_least, grant_sets (standing state.acceptor) slot proposal),
      plan_is views step (Answered (kept_as.Accepted slot proposal)) (message state.me slot (body.Accepted proposal) ∷ []) seen it.change_is it.sends_are it.seen_is,
    ),
    grows_nothing state.config.members (with_seen_round views seen) step (Answered (kept_as.Accepted slot proposal)) it.change_is refl it.grown_is,
  ),
)

pub refusal_of_prepare_gives : (state : AgreementState) (seen sender slot : ℕ) (ballot promised : Ballot) (step : Step)
    → promised_at state.acceptor slot ≡ Some promised → IsAtLeast promised (Some ballot)
    → Sends step (message state.me slot (body.Nack ballot promised) ∷ []) seen Nothing → StepIsDue state seen sender slot (body.Prepare ballot) step
refusal_of_prepare_gives state seen sender slot ballot promised step is at_least it = (
  it.seen_is,
  λ views has. (
    (
      standing state.acceptor,
      standing state.acceptor,
      answer.Nack promised,
      has.restored,
      (is, at_least, stays (standing state.acceptor)),
      plan_is views step Nothing (message state.me slot (body.Nack ballot promised) ∷ []) seen it.change_is it.sends_are it.seen_is,
    ),
    grows_nothing state.config.members (with_seen_round views seen) step Nothing it.change_is refl it.grown_is,
  ),
)

pub refusal_of_accept_gives : (state : AgreementState) (seen sender slot : ℕ) (proposal : Acceptance) (promised : Ballot) (step : Step)
    → promised_at state.acceptor slot ≡ Some promised → IsBelow proposal.ballot promised
    → Sends step (message state.me slot (body.Nack proposal.ballot promised) ∷ []) seen Nothing → StepIsDue state seen sender slot (body.Accept proposal) step
refusal_of_accept_gives state seen sender slot proposal promised step is below it = (
  it.seen_is,
  λ views has. (
    (
      standing state.acceptor,
      standing state.acceptor,
      answer.Nack promised,
      has.restored,
      (is, below, stays (standing state.acceptor)),
      plan_is views step Nothing (message state.me slot (body.Nack proposal.ballot promised) ∷ []) seen it.change_is it.sends_are it.seen_is,
    ),
    grows_nothing state.config.members (with_seen_round views seen) step Nothing it.change_is refl it.grown_is,
  ),
)

-- ---- a message

-- a step of a node that has seen the message's round
pub message_gives : (state : AgreementState) (m : Message) (step : Step) → IsMessageOf state.config m
    → StepIsDue state (max state.seen_round (round_in m.body)) m.sender m.slot m.body step → MessageGives state m (Ok step)
message_gives state m step is gives = (
  is,
  λ views has.
      subst (λ (n : ℕ). BodyGives state.config state.me (with_seen_round views (max n (round_in m.body))) m.sender m.slot m.body (plan_of views step) step.grown.items) has.seen (gives.1 views has),
)
