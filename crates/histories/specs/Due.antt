-- What a node owes to one input, by what it has: the record that it keeps, the messages that it sends, and what it has
-- afterwards; or why it refuses. What its part in agreement owes is in `agreement_rules`; here is what becomes of uploads
-- that clients hand in. That these wait, and until when, is this service's own.
use Rattle.std.specs.Prelude.{◌≡◌, ◌⊎◌, ℕ, ◌<◌, Option, None, List, [], ◌∷◌, ◌++◌, length}
use Rattle.std.specs.List.{Contains}
use Rattle.ballots.specs.declared.value.Value.{Value}
use Rattle.ballots.specs.declared.record.Record.{Record}
use Rattle.ballots.specs.declared.message.Message.{Message}
use Rattle.ballots.specs.declared.message.Body.{Body}
use Rattle.ballots.specs.declared.message.Body.TheVariants.{Prepare, Promise, Nack, Accept, Accepted, Ask, Decided}
use Rattle.learner.specs.Calls.{LearnerCall}
use Rattle.learner.specs.Calls as learner
use Rattle.table_types.specs.Uploads.{Upload}
use Rattle.table_types.specs.Tables.{outcome_of, unknown}
use Rattle.agreement_rules.specs.Views.{AgreementConfig, Views, with_waiting, HasPrefix}
use Rattle.agreement_rules.specs.Due.{Plan, Due, Refuses, Plans, OutOfRange, SlotsSpent, quietly, also_learns, has_seen, IsMessageOf, TickIsDue, PartIsDue, TickKeeps, MessageKeeps}
use Rattle.histories.specs.Texts.{IsTextOf, IsUploadText, HasUploads}

pub data Input : Type 0 where
  -- a client hands in an upload, which is told by its encoding
  Put : List ℕ → Input
  -- time has passed; the number tells how many free slots are left to others
  Tick : ℕ → Input
  Deliver : Message → Input

-- what a client hands in is an upload
abbrev pub IsWellFormed : Input → Type 0
IsWellFormed (Put text) = IsUploadText text
IsWellFormed (Tick left) = Unit {0}
IsWellFormed (Deliver m) = Unit {0}

-- ---- a put

abbrev pub Waits : Views → List ℕ → Type 0
Waits views text = Contains views.waiting text

-- what the tables say of the upload is known, or is not
abbrev pub IsKnown : AgreementConfig → List LearnerCall → List ℕ → Type 0
IsKnown config calls text =
    (upload : Upload) × (uploads : List Upload) × IsTextOf text upload × HasUploads config.members calls uploads
    × (outcome_of uploads upload ≡ unknown → ⊥)

abbrev pub IsUnknown : AgreementConfig → List LearnerCall → List ℕ → Type 0
IsUnknown config calls text =
    (upload : Upload) × (uploads : List Upload) × IsTextOf text upload × HasUploads config.members calls uploads
    × (outcome_of uploads upload ≡ unknown)

-- every slot is in the prefix
abbrev pub AreSpent : AgreementConfig → List LearnerCall → Type 0
AreSpent config calls =
    (values : List Value) × HasPrefix config.members calls values × (length values ≡ config.slot_limit)

abbrev pub AreLeft : AgreementConfig → List LearnerCall → Type 0
AreLeft config calls =
    (values : List Value) × HasPrefix config.members calls values × (length values < config.slot_limit)

abbrev pub waits_too : Views → List ℕ → Views
waits_too views text = with_waiting views (views.waiting ++ text ∷ [])

-- An upload that waits already, or of which something is known, changes nothing. Another waits behind those that wait,
-- while slots are left.
abbrev pub PutIsDue : AgreementConfig → Views → List ℕ → Due → Type 0
PutIsDue config views text (Refuses refusal) =
    (refusal ≡ SlotsSpent) × (Waits views text → ⊥) × IsUnknown config views.learner_calls text
    × AreSpent config views.learner_calls
PutIsDue config views text (Plans plan) =
    ((Waits views text ⊎ IsKnown config views.learner_calls text) × (plan ≡ quietly views))
    ⊎ ((Waits views text → ⊥) × IsUnknown config views.learner_calls text × AreLeft config views.learner_calls
    × (plan ≡ quietly (waits_too views text)))

-- ---- a message

-- those of the waiting uploads of which nothing is known
abbrev pub AreStillWaiting : List Upload → List (List ℕ) → List (List ℕ) → Type 0
AreStillWaiting uploads [] left = left ≡ []
AreStillWaiting uploads (text ∷ texts) left =
    ((upload : Upload) × (rest : List (List ℕ)) × IsTextOf text upload × (outcome_of uploads upload ≡ unknown)
    × (left ≡ text ∷ rest) × AreStillWaiting uploads texts rest)
    ⊎ ((upload : Upload) × IsTextOf text upload × (outcome_of uploads upload ≡ unknown → ⊥)
    × AreStillWaiting uploads texts left)

-- its learner is called so too, and uploads of which something is known with it wait no more
abbrev pub LearnsOf : AgreementConfig → Views → LearnerCall → Plan → Type 0
LearnsOf config views call plan =
    (uploads : List Upload) × (left : List (List ℕ))
    × HasUploads config.members (views.learner_calls ++ call ∷ []) uploads
    × AreStillWaiting uploads views.waiting left
    × (plan ≡ quietly (with_waiting (also_learns views call) left))

-- What a body of this sender and slot makes a node do that has seen its round: what its part in agreement does, and where
-- that may learn something, what waits is looked through.
abbrev pub BodyIsDue : AgreementConfig → ℕ → Views → (sender slot : ℕ) → Body → Plan → Type 0
BodyIsDue config me views sender slot (Accepted acceptance) plan =
    LearnsOf config views (learner.Accepted sender slot acceptance.ballot acceptance.value) plan
BodyIsDue config me views sender slot (Decided value) plan = LearnsOf config views (learner.Decided slot value) plan
BodyIsDue config me views sender slot (Prepare ballot) plan =
    PartIsDue config me views sender slot (Prepare ballot) plan
BodyIsDue config me views sender slot (Promise ballot report) plan =
    PartIsDue config me views sender slot (Promise ballot report) plan
BodyIsDue config me views sender slot (Nack ballot promised) plan =
    PartIsDue config me views sender slot (Nack ballot promised) plan
BodyIsDue config me views sender slot (Accept proposal) plan =
    PartIsDue config me views sender slot (Accept proposal) plan
BodyIsDue config me views sender slot Ask plan = PartIsDue config me views sender slot Ask plan

abbrev pub MessageIsDue : AgreementConfig → ℕ → Views → Message → Due → Type 0
MessageIsDue config me views m (Refuses refusal) = (refusal ≡ OutOfRange) × (IsMessageOf config m → ⊥)
MessageIsDue config me views m (Plans plan) =
    IsMessageOf config m × BodyIsDue config me (has_seen views m) m.sender m.slot m.body plan

-- ---- all inputs

abbrev pub IsDue : AgreementConfig → ℕ → Views → Input → Due → Type 0
IsDue config me views (Put text) due = PutIsDue config views text due
IsDue config me views (Tick left) due = TickIsDue config me views left due
IsDue config me views (Deliver m) due = MessageIsDue config me views m due

-- the record that is due to it
abbrev pub InputKeeps : AgreementConfig → ℕ → Views → Input → Option Record → Type 0
InputKeeps config me views (Put text) kept = kept ≡ None
InputKeeps config me views (Tick left) kept = TickKeeps config me views left kept
InputKeeps config me views (Deliver m) kept = MessageKeeps config views m kept
