-- Votes and decisions, as the calls have them: the words of the laws.
use Rattle.std.specs.Prelude.{◌≡◌, ℕ, ◌<◌, ◌⊎◌, Bool, true, List}
use Rattle.std.specs.List.{Contains}
use Rattle.ballots.specs.Ballot.{Ballot}
use Rattle.ballots.specs.Majority.{tally, IsMajority}
use Rattle.ballots.specs.declared.value.Value.{Value}
use Rattle.learner.specs.Calls.{LearnerCall, Accepted, Decided}

-- it was told that the member accepted some value for the slot at the ballot
abbrev pub HasAccepted : List LearnerCall → ℕ → ℕ → Ballot → Type 0
HasAccepted calls member slot ballot = (value : Value) × Contains calls (Accepted member slot ballot value)

-- different members, more than half of all, of each of which it was told
pub record MajorityAccepted (members : ℕ) (calls : List LearnerCall) (slot : ℕ) (ballot : Ballot) : Type 0 where
  pub is_voter : ℕ → Bool
  pub majority : IsMajority members (tally members is_voter)
  pub each : (member : ℕ) → member < members → is_voter member ≡ true → HasAccepted calls member slot ballot

-- a majority accepted for the slot at one ballot, and the value is what one of the members accepted there
pub record IsAcceptedByMajority (members : ℕ) (calls : List LearnerCall) (slot : ℕ) (value : Value) : Type 0 where
  pub ballot : Ballot
  pub accepted : MajorityAccepted members calls slot ballot
  pub member : ℕ
  pub within : member < members
  pub proposed : Contains calls (Accepted member slot ballot value)

-- it was told as decided, or it was chosen
abbrev pub IsDecidedOrChosen : ℕ → List LearnerCall → ℕ → Value → Type 0
IsDecidedOrChosen members calls slot value = Contains calls (Decided slot value) ⊎ IsAcceptedByMajority members calls slot value
