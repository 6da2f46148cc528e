-- What an attempt keeps of the promises that answered it: a tool of the proofs. What is proposed is defined in
-- `Choosing` and `Attempting`.
use Rattle.std.specs.Prelude.{◌≡◌, ℕ, ◌<◌, ◌≤◌, ◌++◌, ◌∷◌, false, List, [], length, Option, Some, None}
use Rattle.ballots.specs.Ballot.{Ballot}
use Rattle.ballots.specs.Majority.{NodeSet, contains, members_in}
use Rattle.ballots.specs.declared.value.Value.{Value}
use Rattle.proposer.specs.declared.attempt.Attempt.{Attempt}
use Rattle.proposer.specs.declared.choice.Choice.{Choice}
use Rattle.proposer.specs.Call.{Reach, OneSlot, AllFrom, Begun, Promise, ProposerCall}
use Rattle.proposer.specs.Choosing.{PromiseReport, is_sender, HasMajority, first_of_each, reports_of, IsHighest, Chooses}
use Rattle.proposer.specs.Attempting.{counted_at}
use Rattle.proposer.specs.GoingOn.{next_slot}
use Rattle.proposer.specs.Promised.{Reaches}
use Rattle.proposer.specs.Kept.{AheadState, reported_at, AllRise}

-- the best so far: the candidate with no ballot, or the highest report
abbrev pub IsBest : Value → List PromiseReport → Option Ballot → Value → Type 0
IsBest candidate reports None value = (reports ≡ []) × (value ≡ candidate)
IsBest candidate reports (Some ballot) value = IsHighest reports (record { ballot = ballot; value = value })

-- the highest report so far, if there is one
abbrev pub IsTop : List PromiseReport → Option PromiseReport → Type 0
IsTop reports None = reports ≡ []
IsTop reports (Some report) = IsHighest reports report

-- the choice is gone exactly where a majority has answered
abbrev pub ChoiceAfter : ℕ → Value → List Promise → Option Choice → Type 0
ChoiceAfter members candidate promises None = HasMajority members promises
ChoiceAfter members candidate promises (Some choice) =
    (HasMajority members promises → ⊥)
    × IsBest candidate (reports_of (first_of_each promises)) choice.reported_at choice.value

-- who is counted, and what is chosen so far, by the promises that answered the attempt
pub record Counts (members : ℕ) (candidate : Value) (promises : List Promise) (attempt : Attempt) : Type 0 where
  pub senders : (node : ℕ) → node < members → contains attempt.counted node ≡ is_sender promises node
  pub choice : ChoiceAfter members candidate promises attempt.choice

-- what one more promise gives: the chosen value exactly where the majority comes with it
abbrev pub AnswersAtMajority : ℕ → Value → List Promise → Promise → Option Value → Type 0
AnswersAtMajority members candidate promises promise (Some value) =
    (HasMajority members promises → ⊥) × HasMajority members (promises ++ promise ∷ [])
    × Chooses candidate (reports_of (first_of_each (promises ++ promise ∷ []))) value
AnswersAtMajority members candidate promises promise None =
    (HasMajority members promises → ⊥) → HasMajority members (promises ++ promise ∷ []) → ⊥

-- it is the first of its sender, who is a member
pub record IsNew (members : ℕ) (sender : ℕ) (attempt : Attempt) : Type 0 where
  pub member : sender < members
  pub not_counted : contains attempt.counted sender ≡ false

-- how far the attempt reaches, by whether it keeps reports of the slots behind its first
abbrev pub reach_by : Option AheadState → Reach
reach_by None = OneSlot
reach_by (Some ahead) = AllFrom

-- the attempt counts a promise of this reach and sender for this slot and ballot
pub record WouldCount (reach : Reach) (members sender slot : ℕ) (ballot : Ballot) (attempt : Attempt) : Type 0 where
  pub reach_is : reach_by attempt.ahead ≡ reach
  pub slot_is : attempt.slot ≡ slot
  pub ballot_is : attempt.ballot ≡ ballot
  pub is_new : IsNew members sender attempt

-- what is held is for this slot, and of this ballot
abbrev pub IsAt : Option Attempt → ℕ → Ballot → Type 0
IsAt None slot ballot = ⊥
IsAt (Some attempt) slot ballot = Reaches (reach_by attempt.ahead) attempt.slot slot × (attempt.ballot ≡ ballot)

-- ---- the slots behind the first

-- what is kept of them: the next one, and the reports from there on of the promises that count
pub record KeepsReports (members : ℕ) (begun : Begun) (since : List ProposerCall) (counted : NodeSet) (ahead : AheadState)
    : Type 0 where
  pub next : ahead.next ≡ next_slot begun since
  pub reports : (slot : ℕ) → ahead.next ≤ slot
      → reported_at slot ahead.kept ≡ reports_of (counted_at members begun slot since)
  pub rise : AllRise ahead
  pub size : length ahead.kept ≡ members_in members counted

abbrev pub HoldsAhead : ℕ → Begun → List ProposerCall → NodeSet → Option AheadState → Type 0
HoldsAhead members begun since counted None = begun.reach ≡ OneSlot
HoldsAhead members begun since counted (Some ahead) =
    (begun.reach ≡ AllFrom) × KeepsReports members begun since counted ahead
