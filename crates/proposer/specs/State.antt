-- What a proposer holds, and how it stands after a list of calls.
use Rattle.std.specs.Prelude.{◌≡◌, ℕ, List, Option, Some, None}
use Rattle.std.specs.Option.{option_map}
use Rattle.ballots.specs.Ballot.{Ballot}
use Rattle.proposer.specs.declared.attempt.Attempt.{Attempt}
use Rattle.proposer.specs.Call.{Start, Begun, ProposerCall}
use Rattle.proposer.specs.Attempting.{highest_begun, BallotsIncrease, IsOpen, answering}
use Rattle.proposer.specs.Counting.{Counts, IsAt, HoldsAhead}

pub record ProposerState : Type 0 where
  pub me : ℕ
  pub members : ℕ
  pub highest_round : ℕ
  pub attempt : Option Attempt

-- the slot and the ballot of the attempt, if there is one
abbrev pub place_of : Option Attempt → Option (ℕ × Ballot)
place_of held = option_map (λ attempt. (attempt.slot, attempt.ballot)) held

abbrev pub attempt_of : ProposerState → Option (ℕ × Ballot)
attempt_of state = place_of state.attempt

-- the attempt is for this slot, and of this ballot
abbrev pub IsRefusedBy : ProposerState → ℕ → Ballot → Type 0
IsRefusedBy state slot ballot = IsAt state.attempt slot ballot

-- the attempt that is held is the open one
pub record Holds (members : ℕ) (calls : List ProposerCall) (attempt : Attempt) : Type 0 where
  pub begun : Begun
  pub since : List ProposerCall
  pub open_is : IsOpen calls begun since
  pub slot_is : attempt.slot ≡ begun.slot
  pub ballot_is : attempt.ballot ≡ begun.ballot
  pub counts : Counts members begun.candidate (answering members begun since) attempt
  pub ahead : HoldsAhead members begun since attempt.counted attempt.ahead

-- and none is held where none is open
abbrev pub HoldsOpen : ℕ → List ProposerCall → Option Attempt → Type 0
HoldsOpen members calls (Some attempt) = Holds members calls attempt
HoldsOpen members calls None = (begun : Begun) (since : List ProposerCall) → IsOpen calls begun since → ⊥

-- how a proposer that was made so stands after these calls
pub record StateAfter (start : Start) (calls : List ProposerCall) (state : ProposerState) : Type 0 where
  pub me : state.me ≡ start.me
  pub members : state.members ≡ start.members
  pub highest_round : state.highest_round ≡ highest_begun start.highest_round calls
  pub rises : BallotsIncrease start.me start.highest_round calls
  pub attempt : HoldsOpen start.members calls state.attempt

-- it was made somehow, and some calls left it so
pub record HasHistory (state : ProposerState) : Type 0 where
  pub start : Start
  pub calls : List ProposerCall
  pub after : StateAfter start calls state
