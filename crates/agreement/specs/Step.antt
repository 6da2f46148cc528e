-- What a step of a node's part in agreement keeps, sends and changes.
use Rattle.std.specs.Prelude.{◌≡◌, ℕ, ◌<◌, max, Option, None, Some, List, [], ◌∷◌, ◌++◌, length, Result, Ok, Err}
use Rattle.ballots.specs.Limits.{max_round}
use Rattle.ballots.specs.declared.value.Value.{Value}
use Rattle.ballots.specs.Ballot.{Ballot}
use Rattle.ballots.specs.declared.acceptance.Acceptance.{Acceptance}
use Rattle.ballots.specs.declared.record.Record.{Record}
use Rattle.ballots.specs.declared.record.Record.TheVariants as kept_as
use Rattle.ballots.specs.declared.message.Message.{Message}
use Rattle.ballots.specs.declared.message.Body.{Body}
use Rattle.acceptor.specs.AcceptorState.{HasRoomFor}
use Rattle.proposer.specs.Call.{OneSlot, ProposerCall, Begins, Promises, Nacks}
use Rattle.proposer.specs.Attempting.{next_ballot}
use Rattle.learner.specs.Calls.{LearnerCall}
use Rattle.learner.specs.Calls as learner_call
use Rattle.learner.specs.State.{HasRoomToLearn, HasRoomForVote, decided_at}
use Rattle.learner.specs.Changes.{LearnsNow, DecidedNow}
use Rattle.decided_log.specs.LogState.{LogState}
use Rattle.agreement_rules.specs.Views.{AgreementConfig, Views, with_seen_round, HasPrefix}
use Rattle.agreement_rules.specs.Due.{Plan, PartIsDue, AimIsDue, AsksAt, IsMessageOf, has_seen, Attempts, Plans, Refuses}
use Rattle.agreement_rules.specs.Due as due
use Rattle.agreement.specs.declared.refusal.Refusal.{Refusal}
use Rattle.agreement.specs.declared.refusal.Refusal.TheVariants.{OutOfRange, SlotsSpent, RoundsSpent, OutOfMemory}
use Rattle.agreement.specs.declared.step.AgreementStep.{AgreementStep as Step}
use Rattle.agreement.specs.declared.step.Change.{Change}
use Rattle.agreement.specs.declared.step.Change.TheVariants.{Nothing, Answered, Began, Promised, Refused, Accepted, Decided}
use Rattle.agreement.specs.State.{AgreementState, Has}

-- ---- where a change leaves a node

-- the record that is kept of it
abbrev pub kept_of : Change → Option Record
kept_of Nothing = None
kept_of (Answered kept) = Some kept
kept_of (Began slot candidate ballot began) = Some began
kept_of (Promised sender slot ballot report) = None
kept_of (Refused slot ballot) = None
kept_of (Accepted sender slot acceptance learned) = None
kept_of (Decided slot value learned) = None

-- the call of the proposer that comes with it
abbrev pub proposer_call_of : ℕ → Change → Option ProposerCall
proposer_call_of seen (Began slot candidate ballot began) =
    Some (Begins (record { slot = slot; reach = OneSlot; seen_round = seen; candidate = candidate; ballot = ballot }))
proposer_call_of seen (Promised sender slot ballot report) =
    Some (Promises (record { sender = sender; slot = slot; ballot = ballot; report = report }))
proposer_call_of seen (Refused slot ballot) = Some (Nacks slot ballot)
proposer_call_of seen other = None

-- the call of the learner that comes with it
abbrev pub learner_call_of : Change → Option LearnerCall
learner_call_of (Accepted sender slot acceptance learned) =
    Some (learner_call.Accepted sender slot acceptance.ballot acceptance.value)
learner_call_of (Decided slot value learned) = Some (learner_call.Decided slot value)
learner_call_of other = None

-- the list, with this behind it where there is one
abbrev pub with_last : {X : Type 0} → List X → Option X → List X
with_last items None = items
with_last items (Some item) = items ++ item ∷ []

abbrev pub learner_calls_with : Views → Change → List LearnerCall
learner_calls_with views change = with_last views.learner_calls (learner_call_of change)

abbrev pub left_by : Views → ℕ → Change → Views
left_by views seen change = record {
  records = with_last views.records (kept_of change);
  seen_round = seen;
  waiting = views.waiting;
  proposer_calls = with_last views.proposer_calls (proposer_call_of views.seen_round change);
  learner_calls = learner_calls_with views change;
}

-- ---- what is due

-- the prefix grows by these values when its learner is told this
abbrev pub Grows : ℕ → List LearnerCall → List LearnerCall → List Value → Type 0
Grows members before after grown =
    (values : List Value) → HasPrefix members before values → HasPrefix members after (values ++ grown)

-- What a body makes a node do that has seen its round: what is due, and these are the values by which the prefix grows then,
-- which is all that matters to what waits.
abbrev pub BodyGives : AgreementConfig → ℕ → Views → (sender slot : ℕ) → Body → Plan → List Value → Type 0
BodyGives config me views sender slot b plan grown =
    PartIsDue config me views sender slot b plan
    × Grows config.members views.learner_calls plan.after.learner_calls grown

-- ---- what can be taken without memory

-- it is no begin of an attempt
abbrev pub IsAnswer : Record → Type 0
IsAnswer (kept_as.Began ballot) = ⊥
IsAnswer (kept_as.Promised slot ballot) = Unit {0}
IsAnswer (kept_as.Accepted slot acceptance) = Unit {0}
IsAnswer (kept_as.PromisedFrom first ballot) = Unit {0}

-- the log has room for what is learned
abbrev pub HasRoomForLearned : LogState → Option Value → Type 0
HasRoomForLearned log None = Unit {0}
HasRoomForLearned log (Some value) = 0 < log.room

-- the attempt begins at the node's next ballot
pub record CanBegin (state : AgreementState) (ballot : Ballot) (began : Record) : Type 0 where
  pub kept : began ≡ kept_as.Began ballot
  pub rounds_left : max state.seen_round state.proposer.highest_round < max_round
  pub next : ballot ≡ next_ballot state.proposer.me state.proposer.highest_round state.seen_round

pub record CanCountVote (state : AgreementState) (sender slot : ℕ) (acceptance : Acceptance) (learned : Option Value) : Type 0 where
  pub vote : HasRoomForVote state.learner sender slot acceptance.ballot
  pub now : LearnsNow state.learner sender slot acceptance.ballot acceptance.value learned
  pub room : HasRoomForLearned state.log learned
  pub within : slot < state.config.slot_limit

pub record CanLearn (state : AgreementState) (slot : ℕ) (value : Value) (learned : Option Value) : Type 0 where
  pub place : HasRoomToLearn state.learner slot
  pub now : DecidedNow (decided_at state.learner slot) value learned
  pub room : HasRoomForLearned state.log learned
  pub within : slot < state.config.slot_limit

-- the change can be made
abbrev pub CanTake : AgreementState → Change → Type 0
CanTake state Nothing = Unit {0}
CanTake state (Answered kept) = IsAnswer kept × HasRoomFor state.acceptor kept
CanTake state (Began slot candidate ballot began) = CanBegin state ballot began
CanTake state (Promised sender slot ballot report) = Unit {0}
CanTake state (Refused slot ballot) = Unit {0}
CanTake state (Accepted sender slot acceptance learned) = CanCountVote state sender slot acceptance learned
CanTake state (Decided slot value learned) = CanLearn state slot value learned

-- ---- what a step is

-- the step as a plan
abbrev pub plan_of : Views → Step → Plan
plan_of views step = record {
  kept = kept_of step.change;
  sends = step.sends.items;
  after = left_by views step.seen_round step.change;
}

-- the step sends these messages, makes this change, and nothing else
pub record Sends (step : Step) (sends : List Message) (seen : ℕ) (change : Change) : Type 0 where
  pub sends_are : step.sends.items ≡ sends
  pub grown_is : step.grown.items ≡ []
  pub seen_is : step.seen_round ≡ seen
  pub change_is : step.change ≡ change

-- the step sends nothing, grows the prefix by these values, and makes this change
pub record Gains (step : Step) (grown : List Value) (seen : ℕ) (change : Change) : Type 0 where
  pub sends_none : step.sends.items ≡ []
  pub grown_is : step.grown.items ≡ grown
  pub seen_is : step.seen_round ≡ seen
  pub change_is : step.change ≡ change

-- the step is what this body of this sender and slot gives, whatever records and calls the node stands by
abbrev pub StepIsDue : AgreementState → ℕ → (sender slot : ℕ) → Body → Step → Type 0
StepIsDue state seen sender slot b step =
    (step.seen_round ≡ seen)
    × ((views : Views) → Has state views
    → BodyGives state.config state.me (with_seen_round views seen) sender slot b (plan_of views step) step.grown.items)

-- the node stands by the same records and calls
abbrev pub StaysAsItWas : AgreementState → AgreementState → Type 0
StaysAsItWas old new = (views : Views) → Has old views → Has new views

-- so it does, and can take the step
pub record IsReady (old new : AgreementState) (step : Step) : Type 0 where
  pub same : StaysAsItWas old new
  pub can : CanTake new step.change

-- ---- a message

-- What is due to a message, memory apart: it is refused where it names what is none of the configuration's, and else its body
-- gives what it gives a node that has seen its greatest round.
abbrev pub MessageGives : AgreementState → Message → Result Step Refusal → Type 0
MessageGives state m (Ok step) =
    IsMessageOf state.config m
    × ((views : Views) → Has state views
    → BodyGives state.config state.me (has_seen views m) m.sender m.slot m.body (plan_of views step) step.grown.items)
MessageGives state m (Err OutOfRange) = IsMessageOf state.config m → ⊥
MessageGives state m (Err SlotsSpent) = ⊥
MessageGives state m (Err RoundsSpent) = ⊥
MessageGives state m (Err OutOfMemory) = IsMessageOf state.config m

-- ---- an Ask

-- What is due where the node asks for what is decided from the first free slot on.
abbrev pub AskGives : AgreementState → Step → Type 0
AskGives state step =
    (views : Views) (values : List Value) → Has state views → HasPrefix state.config.members views.learner_calls values
    → AsksAt state.config state.me views (length values) (plan_of views step)

-- ---- an attempt

-- What is due where an attempt for this slot is aimed at, memory apart.
abbrev pub AttemptGives : AgreementState → ℕ → Value → Result Step Refusal → Type 0
AttemptGives state slot value (Ok step) =
    (views : Views) → Has state views
    → AimIsDue state.config state.me views (Attempts slot value) (Plans (plan_of views step))
AttemptGives state slot value (Err SlotsSpent) =
    (views : Views) → AimIsDue state.config state.me views (Attempts slot value) (Refuses due.SlotsSpent)
AttemptGives state slot value (Err RoundsSpent) =
    (views : Views) → Has state views
    → AimIsDue state.config state.me views (Attempts slot value) (Refuses due.RoundsSpent)
AttemptGives state slot value (Err OutOfRange) = ⊥
AttemptGives state slot value (Err OutOfMemory) = slot < state.config.slot_limit
