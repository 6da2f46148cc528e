-- That each learner has a history: it was made, and some calls left it as it is.
use Rattle.std.specs.Prelude.{ℕ, List, [], ◌∷◌, ◌++◌}
use Rattle.learner.specs.Calls.{LearnerCall}
use Rattle.learner.specs.State.{LearnerState}
use Rattle.learner.specs.Learned.{StateAfter, HasHistory, IsSame}
use Rattle.learner.proofs.Learning.{same_learnt}

pub history_starts : (n : ℕ) (state : LearnerState) → StateAfter n [] state → HasHistory state
history_starts n state after = record { members = n; calls = []; after = after }

pub history_goes_on : (call : LearnerCall) (old new : LearnerState) → HasHistory old
    → ((n : ℕ) (calls : List LearnerCall) → StateAfter n calls old → StateAfter n (calls ++ call ∷ []) new) → HasHistory new
history_goes_on call old new h more = record {
  members = h.members;
  calls = h.calls ++ call ∷ [];
  after = more h.members h.calls h.after;
}

pub history_stays : (old new : LearnerState) → HasHistory old → IsSame old new → HasHistory new
history_stays old new h same = record {
  members = h.members;
  calls = h.calls;
  after = same_learnt h.members h.calls old new same h.after;
}
