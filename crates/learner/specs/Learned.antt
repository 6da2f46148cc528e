-- What a learner holds after these calls: Lamport, "Paxos Made Simple", section 2.3.
use Rattle.std.specs.Prelude.{◌≡◌, ◌↔◌, ℕ, ◌<◌, List, Option, Some, None}
use Rattle.ballots.specs.Ballot.{Ballot}
use Rattle.ballots.specs.declared.value.Value.{Value}
use Rattle.learner.specs.Calls.{LearnerCall, has_voted, first_counted, IsChosenOrDecided, IsLearned}
use Rattle.learner.specs.State.{LearnerState, decided_at, voted_at, first_at}

-- A slot has a value where it was chosen or decided, and then the one that it learned; what was counted for it is gone.
-- Of a slot that has none, who was counted at each ballot, and the first value there, are those of the calls.
pub record StateAfter (n : ℕ) (calls : List LearnerCall) (state : LearnerState) : Type 0 where
  pub members : state.members ≡ n
  pub learned : (slot : ℕ) (value : Value) → decided_at state slot ≡ Some value → IsLearned n calls slot value
  pub gone : (slot : ℕ) (ballot : Ballot) (value : Value) → decided_at state slot ≡ Some value
      → first_at state slot ballot ≡ None
  pub unsettled : (slot : ℕ) → decided_at state slot ≡ None → IsChosenOrDecided n calls slot → ⊥
  pub votes : (slot : ℕ) (ballot : Ballot) (member : ℕ) → decided_at state slot ≡ None → member < n
      → voted_at state slot ballot member ≡ has_voted calls slot ballot member
  pub firsts : (slot : ℕ) (ballot : Ballot) → decided_at state slot ≡ None
      → first_at state slot ballot ≡ first_counted n calls slot ballot

-- this is what each slot learned of the calls
abbrev pub HasLearned : ℕ → List LearnerCall → (ℕ → Option Value) → Type 0
HasLearned members calls at = (slot : ℕ) (value : Value) → at slot ≡ Some value ↔ IsLearned members calls slot value

-- it was made of some members, and some calls left it so
pub record HasHistory (state : LearnerState) : Type 0 where
  pub members : ℕ
  pub calls : List LearnerCall
  pub after : StateAfter members calls state

-- every look-up answers as before
pub record IsSame (old new : LearnerState) : Type 0 where
  pub members : new.members ≡ old.members
  pub decided : (slot : ℕ) → decided_at new slot ≡ decided_at old slot
  pub votes : (slot : ℕ) (ballot : Ballot) (member : ℕ)
      → voted_at new slot ballot member ≡ voted_at old slot ballot member
  pub firsts : (slot : ℕ) (ballot : Ballot) → first_at new slot ballot ≡ first_at old slot ballot
