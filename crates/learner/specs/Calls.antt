-- What a learner was told, and what it learned of it: Lamport, "Paxos Made Simple", section 2.3.
use Rattle.std.specs.Prelude.{◌≡◌, ℕ, ◌==◌, ◌⊎◌, Bool, false, ◌&&◌, IsTrue, nat_lt, List, [], ◌∷◌, ◌++◌, find}
use Rattle.std.specs.Prelude.{Option, Some, None}
use Rattle.std.specs.List.{list_any}
use Rattle.std.specs.Option.{option_map}
use Rattle.ballots.specs.Ballot.{Ballot, is_same_ballot}
use Rattle.ballots.specs.Majority.{tally, IsMajority}
use Rattle.ballots.specs.declared.value.Value.{Value}

-- what one call tells: that an acceptor accepted a value for a slot at a ballot, or which value was decided for a slot
pub data LearnerCall : Type 0 where
  Accepted : ℕ → ℕ → Ballot → Value → LearnerCall
  Decided : ℕ → Value → LearnerCall

-- the value that it tells of
abbrev pub value_in : LearnerCall → Value
value_in (Accepted acceptor slot ballot value) = value
value_in (Decided slot value) = value

-- the slot that it tells of
abbrev pub slot_of : LearnerCall → ℕ
slot_of (Accepted acceptor slot ballot value) = slot
slot_of (Decided slot value) = slot

-- it tells that this value was decided for the slot
abbrev pub is_decision_for : ℕ → LearnerCall → Bool
is_decision_for slot (Accepted acceptor s ballot value) = false
is_decision_for slot (Decided s value) = s == slot

-- it tells that this member accepted for the slot at the ballot
abbrev pub is_vote_of : ℕ → ℕ → Ballot → LearnerCall → Bool
is_vote_of member slot ballot (Accepted acceptor s b value)
    = (acceptor == member) && (s == slot) && is_same_ballot b ballot
is_vote_of member slot ballot (Decided s value) = false

-- it tells that one of so many members accepted for the slot at the ballot
abbrev pub is_counted : ℕ → ℕ → Ballot → LearnerCall → Bool
is_counted members slot ballot (Accepted acceptor s b value)
    = nat_lt acceptor members && (s == slot) && is_same_ballot b ballot
is_counted members slot ballot (Decided s value) = false

-- a member counts once, however often it is told of
abbrev pub has_voted : List LearnerCall → ℕ → Ballot → ℕ → Bool
has_voted calls slot ballot member = list_any (is_vote_of member slot ballot) calls

-- the value of the first counted at the slot and ballot
abbrev pub first_counted : ℕ → List LearnerCall → ℕ → Ballot → Option Value
first_counted members calls slot ballot = option_map value_in (find (is_counted members slot ballot) calls)

-- the slot was told as decided, or at one ballot a majority of the members accepted for it
abbrev pub IsChosenOrDecided : ℕ → List LearnerCall → ℕ → Type 0
IsChosenOrDecided members calls slot =
    IsTrue (list_any (is_decision_for slot) calls)
    ⊎ ((ballot : Ballot) × IsMajority members (tally members (has_voted calls slot ballot)))

-- the value by the last of the calls, with which the slot was chosen or decided: a decision has its own, and with an
-- acceptance it is that of the first counted at the ballot
abbrev pub DecidingValue : ℕ → List LearnerCall → ℕ → LearnerCall → Value → Type 0
DecidingValue members calls slot (Accepted acceptor s ballot v) value
    = first_counted members calls slot ballot ≡ Some value
DecidingValue members calls slot (Decided s v) value = v ≡ value

-- With one of the calls the slot was chosen or decided, and not with those before it. The value is by that call.
pub record IsLearned (members : ℕ) (calls : List LearnerCall) (slot : ℕ) (value : Value) : Type 0 where
  pub before : List LearnerCall
  pub call : LearnerCall
  pub after : List LearnerCall
  pub parts : calls ≡ before ++ call ∷ after
  pub not_before : IsChosenOrDecided members before slot → ⊥
  pub settled : IsChosenOrDecided members (before ++ call ∷ []) slot
  pub told : DecidingValue members (before ++ call ∷ []) slot call value

-- which value a further call makes the slot learn: none where the slot is not chosen or decided with it, or was before
abbrev pub Learns : ℕ → List LearnerCall → LearnerCall → ℕ → Option Value → Type 0
Learns members calls call slot (Some value) =
    (IsChosenOrDecided members calls slot → ⊥) × IsLearned members (calls ++ call ∷ []) slot value
Learns members calls call slot None =
    IsChosenOrDecided members (calls ++ call ∷ []) slot → IsChosenOrDecided members calls slot
