-- What the steps of a call change in what a learner holds.
use Rattle.std.specs.Prelude.{◌≡◌, ◌≢◌, ℕ, ◌<◌, ◌==◌, false, ◌||◌, [], ◌∷◌, Option, Some, None, unwrap_or}
use Rattle.std.specs.Option.{option_map, option_map_or, option_or}
use Rattle.ballots.specs.Ballot.{Ballot}
use Rattle.ballots.specs.Majority.{tally, IsMajority}
use Rattle.ballots.specs.declared.value.Value.{Value}
use Rattle.learner.specs.declared.tally.Tally.{Tally}
use Rattle.learner.specs.Calls.{Accepted, is_vote_of, first_counted}
use Rattle.learner.specs.State.{LearnerState, has_vote, decided_at, tally_at, voted_at, first_at}

-- with this acceptor's vote, those counted at the slot and ballot are a majority
abbrev pub IsChosenWith : LearnerState → ℕ → ℕ → Ballot → Type 0
IsChosenWith state acceptor slot ballot =
    IsMajority state.members (tally state.members (λ member. voted_at state slot ballot member || (acceptor == member)))

-- the value that this vote makes the slot learn: that of the first counted at the ballot, or its own; none where the
-- acceptor is no member, the slot has learned, or those counted with it are no majority
abbrev pub LearnsNow : LearnerState → ℕ → ℕ → Ballot → Value → Option Value → Type 0
LearnsNow state acceptor slot ballot value (Some learned) =
    (acceptor < state.members) × (decided_at state slot ≡ None) × IsChosenWith state acceptor slot ballot
    × (learned ≡ unwrap_or (first_at state slot ballot) value)
LearnsNow state acceptor slot ballot value None =
    acceptor < state.members → decided_at state slot ≡ None → IsChosenWith state acceptor slot ballot → ⊥

-- the value that a decision makes a slot learn that has this one: none where it has learned
abbrev pub DecidedNow : Option Value → Value → Option Value → Type 0
DecidedNow None value learned = learned ≡ Some value
DecidedNow (Some held) value learned = learned ≡ None

-- the acceptor is counted in a ballot's tally, which stands from then on; its value is that of the first
pub record CountsIn (old new : Option Tally) (acceptor : ℕ) (value : Value) : Type 0 where
  pub votes : (member : ℕ) → option_map_or (λ t. has_vote t member) new false
      ≡ (option_map_or (λ t. has_vote t member) old false || (acceptor == member))
  pub first : option_map (λ t. t.value) new ≡ option_or (option_map (λ t. t.value) old) (Some value)

-- the acceptor is counted at the slot and ballot, and all else is as before
pub record Counts (old new : LearnerState) (acceptor slot : ℕ) (ballot : Ballot) (value : Value) : Type 0 where
  pub members : new.members ≡ old.members
  pub decided : (s : ℕ) → decided_at new s ≡ decided_at old s
  pub votes : (s : ℕ) (b : Ballot) (member : ℕ)
      → voted_at new s b member
      ≡ (voted_at old s b member || is_vote_of member s b (Accepted acceptor slot ballot value))
  pub firsts : (s : ℕ) (b : Ballot) → acceptor < old.members
      → first_at new s b
      ≡ option_or (first_at old s b) (first_counted old.members (Accepted acceptor slot ballot value ∷ []) s b)

-- the slot's tallies may be gone, and all else is as before
pub record Drops (old new : LearnerState) (slot : ℕ) : Type 0 where
  pub members : new.members ≡ old.members
  pub learned : new.learned ≡ old.learned
  pub tallies : (s : ℕ) (b : Ballot) → s ≢ slot → tally_at new s b ≡ tally_at old s b

-- the slot has this value and no tallies, and the other slots are as before
pub record Puts (old new : LearnerState) (slot : ℕ) (value : Value) : Type 0 where
  pub members : new.members ≡ old.members
  pub here : decided_at new slot ≡ Some value
  pub gone : (b : Ballot) → first_at new slot b ≡ None
  pub decided : (s : ℕ) → s ≢ slot → decided_at new s ≡ decided_at old s
  pub tallies : (s : ℕ) (b : Ballot) → s ≢ slot → tally_at new s b ≡ tally_at old s b
