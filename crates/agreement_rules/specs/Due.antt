-- What a node's part in agreement owes to a message and to a tick, by what the node has: the record that it keeps, the
-- messages that it sends, and what it has afterwards; or why it refuses. Lamport, "Paxos Made Simple", sections 2.2, 2.3
-- and 2.5; ticks and limits are this service's own.
use Rattle.std.specs.Prelude.{◌≡◌, ◌⊎◌, ℕ, ◌<◌, ◌≤◌, max, Option, None, Some, List, [], ◌∷◌, ◌++◌, length}
use Rattle.ballots.specs.Limits.{max_round}
use Rattle.ballots.specs.Ballot.{Ballot, IsAbove, IsAtLeast}
use Rattle.ballots.specs.declared.value.Value.{Value}
use Rattle.ballots.specs.declared.value.Value.TheVariants.{Noop, Upload as UploadValue}
use Rattle.ballots.specs.declared.acceptance.Acceptance.{Acceptance}
use Rattle.ballots.specs.declared.record.Record.{Record}
use Rattle.ballots.specs.declared.record.Record.TheVariants.{Began, Promised, Accepted as HasAccepted}
use Rattle.ballots.specs.declared.message.Message.{Message}
use Rattle.ballots.specs.declared.message.Body.{Body}
use Rattle.ballots.specs.declared.message.Body.TheVariants.{Prepare, Promise, Nack, Accept, Accepted, Ask, Decided}
use Rattle.ballots.specs.Message.{message}
use Rattle.acceptor.specs.Standing.{Standing}
use Rattle.acceptor.specs.declared.answer.Answer.{Answer}
use Rattle.acceptor.specs.declared.answer.Answer.TheVariants as answer
use Rattle.acceptor.specs.Answering.{Prepares, Accepts}
use Rattle.acceptor.specs.Restored.{IsRestored, IsHighestRound}
use Rattle.proposer.specs.Call.{OneSlot, ProposerCall, Begins, Promises, Nacks}
use Rattle.proposer.specs.Attempting.{next_ballot, Answers}
use Rattle.learner.specs.Calls.{LearnerCall}
use Rattle.learner.specs.Calls as learner
use Rattle.decided_log.specs.Asked.{asked_of}
use Rattle.agreement_rules.specs.Views.{AgreementConfig, Views, with_records, with_seen_round, with_proposer_calls, with_learner_calls, IsFreeAfter, HasPrefix, HasGap}

-- ---- what is due

pub data Refusal : Type 0 where
  OutOfRange : Refusal
  SlotsSpent : Refusal
  RoundsSpent : Refusal
  OutOfMemory : Refusal

pub record Plan : Type 0 where
  pub kept : Option Record
  pub sends : List Message
  pub after : Views

pub data Due : Type 0 where
  Refuses : Refusal → Due
  Plans : Plan → Due

-- nothing is kept or sent
abbrev pub quietly : Views → Plan
quietly after = record { kept = None; sends = []; after = after }

-- no record is kept, and these messages go out
abbrev pub sends_alone : Views → List Message → Plan
sends_alone views messages = record { kept = None; sends = messages; after = views }

-- a record is kept, and this message goes out
abbrev pub answers_with : Views → Record → Message → Plan
answers_with views kept reply =
    record { kept = Some kept; sends = reply ∷ []; after = with_records views (views.records ++ kept ∷ []) }

-- ---- a tick

-- what a tick is for: an attempt to have a value chosen for a slot, or an Ask for what is decided from a slot on
pub data Aim : Type 0 where
  Attempts : ℕ → Value → Aim
  AsksFrom : ℕ → Aim

-- Where something waits, the first is attempted, at the free slot that leaves so many free ones below it to others. Else a
-- no-op is attempted at the first free slot if something is learned behind it, and if not, the node asks from there on.
abbrev pub IsAim : AgreementConfig → Views → ℕ → Aim → Type 0
IsAim config views left (Attempts slot value) =
    ((text : List ℕ) × (others : List (List ℕ)) × (views.waiting ≡ text ∷ others) × (value ≡ UploadValue text)
    × IsFreeAfter config.members views.learner_calls left slot)
    ⊎ ((values : List Value) × (views.waiting ≡ []) × (value ≡ Noop)
    × HasPrefix config.members views.learner_calls values × (slot ≡ length values)
    × HasGap config.members views.learner_calls slot)
IsAim config views left (AsksFrom slot) =
    (values : List Value) × (views.waiting ≡ []) × HasPrefix config.members views.learner_calls values
    × (slot ≡ length values) × (HasGap config.members views.learner_calls slot → ⊥)

-- the proposer is called so too
abbrev pub also_proposes : Views → ProposerCall → Views
also_proposes views call = with_proposer_calls views (views.proposer_calls ++ call ∷ [])

-- an attempt begins at this ballot, of which a record is kept
abbrev pub begins : ℕ → Views → ℕ → Value → Ballot → Plan
begins me views slot value ballot = record {
  kept = Some (Began ballot);
  sends = message me slot (Prepare ballot) ∷ [];
  after = also_proposes (with_records views (views.records ++ Began ballot ∷ [])) (Begins (record {
    slot = slot;
    reach = OneSlot;
    seen_round = views.seen_round;
    candidate = value;
    ballot = ballot;
  }));
}

-- what is asked from a slot on, unless there is no such slot
abbrev pub AsksAt : AgreementConfig → ℕ → Views → ℕ → Plan → Type 0
AsksAt config me views slot plan =
    ((slot < config.slot_limit) × (plan ≡ sends_alone views (message me slot Ask ∷ [])))
    ⊎ ((slot ≡ config.slot_limit) × (plan ≡ quietly views))

abbrev pub AimIsDue : AgreementConfig → ℕ → Views → Aim → Due → Type 0
AimIsDue config me views (Attempts slot value) (Refuses SlotsSpent) = config.slot_limit ≤ slot
AimIsDue config me views (Attempts slot value) (Refuses RoundsSpent) =
    (highest : ℕ) × (slot < config.slot_limit) × IsHighestRound views.records highest
    × (max_round ≤ max views.seen_round highest)
AimIsDue config me views (Attempts slot value) (Refuses other) = ⊥
AimIsDue config me views (Attempts slot value) (Plans plan) =
    (highest : ℕ) × (slot < config.slot_limit) × IsHighestRound views.records highest
    × (max views.seen_round highest < max_round)
    × (plan ≡ begins me views slot value (next_ballot me highest views.seen_round))
AimIsDue config me views (AsksFrom slot) (Refuses other) = ⊥
AimIsDue config me views (AsksFrom slot) (Plans plan) = AsksAt config me views slot plan

-- a tick leaves no more than seven free slots to others
abbrev pub most_left : ℕ
most_left = 7

abbrev pub TickIsDue : AgreementConfig → ℕ → Views → ℕ → Due → Type 0
TickIsDue config me views left due =
    ((most_left < left) × (due ≡ Refuses OutOfRange))
    ⊎ ((aim : Aim) × (left ≤ most_left) × IsAim config views left aim × AimIsDue config me views aim due)

-- ---- a message

-- every node and slot that it names is of the configuration
abbrev pub IsReportOf : ℕ → Option Acceptance → Type 0
IsReportOf members None = Unit {0}
IsReportOf members (Some report) = report.ballot.node < members

abbrev pub IsBodyOf : ℕ → Body → Type 0
IsBodyOf members (Prepare ballot) = ballot.node < members
IsBodyOf members (Promise ballot report) = (ballot.node < members) × IsReportOf members report
IsBodyOf members (Nack ballot promised) = (ballot.node < members) × (promised.node < members)
IsBodyOf members (Accept proposal) = proposal.ballot.node < members
IsBodyOf members (Accepted acceptance) = acceptance.ballot.node < members
IsBodyOf members Ask = Unit {0}
IsBodyOf members (Decided value) = Unit {0}

pub record IsMessageOf (config : AgreementConfig) (m : Message) : Type 0 where
  pub sender : m.sender < config.members
  pub slot : m.slot < config.slot_limit
  pub body : IsBodyOf config.members m.body

-- the greatest round in it
abbrev pub round_of_report : Option Acceptance → ℕ
round_of_report None = 0
round_of_report (Some report) = report.ballot.round

abbrev pub round_in : Body → ℕ
round_in (Prepare ballot) = ballot.round
round_in (Promise ballot report) = max ballot.round (round_of_report report)
round_in (Nack ballot promised) = max ballot.round promised.round
round_in (Accept proposal) = proposal.ballot.round
round_in (Accepted acceptance) = acceptance.ballot.round
round_in Ask = 0
round_in (Decided value) = 0

abbrev pub has_seen : Views → Message → Views
has_seen views m = with_seen_round views (max views.seen_round (round_in m.body))

-- what an acceptor's answer makes its node send
abbrev pub ReplyToPrepare : ℕ → Views → ℕ → Ballot → Answer → Plan → Type 0
ReplyToPrepare me views slot ballot (answer.Promise report) plan =
    plan ≡ answers_with views (Promised slot ballot) (message me slot (Promise ballot report))
ReplyToPrepare me views slot ballot (answer.Nack promised) plan =
    plan ≡ sends_alone views (message me slot (Nack ballot promised) ∷ [])
ReplyToPrepare me views slot ballot answer.Granted plan = ⊥
ReplyToPrepare me views slot ballot (answer.PromiseFrom reports) plan = ⊥

abbrev pub ReplyToAccept : ℕ → Views → ℕ → Acceptance → Answer → Plan → Type 0
ReplyToAccept me views slot proposal answer.Granted plan =
    plan ≡ answers_with views (HasAccepted slot proposal) (message me slot (Accepted proposal))
ReplyToAccept me views slot proposal (answer.Nack promised) plan =
    plan ≡ sends_alone views (message me slot (Nack proposal.ballot promised) ∷ [])
ReplyToAccept me views slot proposal (answer.Promise report) plan = ⊥
ReplyToAccept me views slot proposal (answer.PromiseFrom reports) plan = ⊥

-- the Accept that a promise leads to
abbrev pub accept_of : ℕ → Option (ℕ × Ballot × Value) → List Message
accept_of me None = []
accept_of me (Some accept) =
    message me accept.0 (Accept (record { ballot = accept.1; value = accept.2 })) ∷ []

-- the learner is called so too
abbrev pub also_learns : Views → LearnerCall → Views
also_learns views call = with_learner_calls views (views.learner_calls ++ call ∷ [])

-- What a body of this sender and slot makes the part in agreement do of a node that has seen its round. What waits at the
-- node stays as it is: whether what was learned concerns it is not asked here.
abbrev pub PartIsDue : AgreementConfig → ℕ → Views → (sender slot : ℕ) → Body → Plan → Type 0
PartIsDue config me views sender slot (Prepare ballot) plan =
    (old new : Standing) × (reply : Answer) × IsRestored views.records old × Prepares old new slot ballot reply
    × ReplyToPrepare me views slot ballot reply plan
PartIsDue config me views sender slot (Accept proposal) plan =
    (old new : Standing) × (reply : Answer) × IsRestored views.records old × Accepts old new slot proposal reply
    × ReplyToAccept me views slot proposal reply plan
PartIsDue config me views sender slot (Promise ballot report) plan =
    (accept : Option (ℕ × Ballot × Value))
    × Answers config.members views.proposer_calls
    (record { sender = sender; slot = slot; ballot = ballot; report = report }) accept
    × (plan ≡ sends_alone (also_proposes views (Promises
    (record { sender = sender; slot = slot; ballot = ballot; report = report }))) (accept_of me accept))
PartIsDue config me views sender slot (Nack ballot promised) plan =
    plan ≡ quietly (also_proposes views (Nacks slot ballot))
PartIsDue config me views sender slot (Accepted acceptance) plan =
    plan ≡ quietly (also_learns views (learner.Accepted sender slot acceptance.ballot acceptance.value))
PartIsDue config me views sender slot (Decided value) plan =
    plan ≡ quietly (also_learns views (learner.Decided slot value))
PartIsDue config me views sender slot Ask plan =
    (values : List Value) × HasPrefix config.members views.learner_calls values
    × (plan ≡ sends_alone views (asked_of me values slot))

-- ---- the record that is due

-- the record of what is due; a refusal has none
abbrev pub record_due : Due → Option Record
record_due (Refuses refusal) = None
record_due (Plans plan) = plan.kept

-- Which record a body makes a node keep that has these records: a promise where the ballot is above what the slot has
-- promised, an acceptance where it is that or above; and none of any other body.
abbrev pub BodyKeeps : List Record → ℕ → Body → Option Record → Type 0
BodyKeeps records slot (Prepare ballot) kept =
    (standing : Standing) × IsRestored records standing
    × ((IsAbove ballot (standing.promised slot) × (kept ≡ Some (Promised slot ballot)))
    ⊎ ((IsAbove ballot (standing.promised slot) → ⊥) × (kept ≡ None)))
BodyKeeps records slot (Accept proposal) kept =
    (standing : Standing) × IsRestored records standing
    × ((IsAtLeast proposal.ballot (standing.promised slot) × (kept ≡ Some (HasAccepted slot proposal)))
    ⊎ ((IsAtLeast proposal.ballot (standing.promised slot) → ⊥) × (kept ≡ None)))
BodyKeeps records slot (Promise ballot report) kept = kept ≡ None
BodyKeeps records slot (Nack ballot promised) kept = kept ≡ None
BodyKeeps records slot (Accepted acceptance) kept = kept ≡ None
BodyKeeps records slot (Decided value) kept = kept ≡ None
BodyKeeps records slot Ask kept = kept ≡ None

-- and a message, of which nothing is kept where it is none of the configuration's
abbrev pub MessageKeeps : AgreementConfig → Views → Message → Option Record → Type 0
MessageKeeps config views m kept =
    (IsMessageOf config m × BodyKeeps views.records m.slot m.body kept)
    ⊎ ((IsMessageOf config m → ⊥) × (kept ≡ None))

-- and a tick: that of the attempt which begins, if one does
abbrev pub TickKeeps : AgreementConfig → ℕ → Views → ℕ → Option Record → Type 0
TickKeeps config me views left kept = (due : Due) × TickIsDue config me views left due × (kept ≡ record_due due)
