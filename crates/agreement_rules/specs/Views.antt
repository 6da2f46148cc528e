-- What a node has, as far as it decides what the node does: Lamport, "Paxos Made Simple", sections 2.5 and 3. A view is a
-- list of what came: the records that the node kept, and what came since it started.
use Rattle.std.specs.Prelude.{◌≡◌, ℕ, ◌<◌, List, [], length, slice_get, Some, Bool, IsTrue, ◌↔◌}
use Rattle.ballots.specs.Majority.{tally}
use Rattle.ballots.specs.declared.value.Value.{Value}
use Rattle.ballots.specs.declared.record.Record.{Record}
use Rattle.proposer.specs.Call.{ProposerCall}
use Rattle.learner.specs.Calls.{LearnerCall, IsLearned}

-- how many members agree, and how many slots there are
pub record AgreementConfig : Type 0 where
  pub members : ℕ
  pub slot_limit : ℕ

pub record Views : Type 0 where
  -- the records that it kept
  pub records : List Record
  -- the greatest round in any message that was delivered to it since it started
  pub seen_round : ℕ
  -- what clients have handed in that waits to be agreed on, the longest waiting first, each as its bytes
  pub waiting : List (List ℕ)
  -- the calls of its proposer since it started
  pub proposer_calls : List ProposerCall
  -- the calls of its learner since it started
  pub learner_calls : List LearnerCall

-- a node that starts with these records has nothing else
abbrev pub started_with : List Record → Views
started_with records =
    record { records = records; seen_round = 0; waiting = []; proposer_calls = []; learner_calls = [] }

-- ---- the same views but for one part

abbrev pub with_records : Views → List Record → Views
with_records views records = record {
  records = records;
  seen_round = views.seen_round;
  waiting = views.waiting;
  proposer_calls = views.proposer_calls;
  learner_calls = views.learner_calls;
}

abbrev pub with_seen_round : Views → ℕ → Views
with_seen_round views round = record {
  records = views.records;
  seen_round = round;
  waiting = views.waiting;
  proposer_calls = views.proposer_calls;
  learner_calls = views.learner_calls;
}

abbrev pub with_waiting : Views → List (List ℕ) → Views
with_waiting views waiting = record {
  records = views.records;
  seen_round = views.seen_round;
  waiting = waiting;
  proposer_calls = views.proposer_calls;
  learner_calls = views.learner_calls;
}

abbrev pub with_proposer_calls : Views → List ProposerCall → Views
with_proposer_calls views calls = record {
  records = views.records;
  seen_round = views.seen_round;
  waiting = views.waiting;
  proposer_calls = calls;
  learner_calls = views.learner_calls;
}

abbrev pub with_learner_calls : Views → List LearnerCall → Views
with_learner_calls views calls = record {
  records = views.records;
  seen_round = views.seen_round;
  waiting = views.waiting;
  proposer_calls = views.proposer_calls;
  learner_calls = calls;
}

-- ---- what it has learned

-- the slot has learned nothing
abbrev pub IsFree : ℕ → List LearnerCall → ℕ → Type 0
IsFree members calls slot = (value : Value) → IsLearned members calls slot value → ⊥

-- the slot is free, and so many of those below it are
pub record IsFreeAfter (members : ℕ) (calls : List LearnerCall) (count slot : ℕ) : Type 0 where
  pub free : IsFree members calls slot
  pub is_free : ℕ → Bool
  pub tells : (other : ℕ) → other < slot → (IsTrue (is_free other) ↔ IsFree members calls other)
  pub below : tally slot is_free ≡ count

-- the values that were learned for the slots 0, 1, .. up to the first free one
pub record HasPrefix (members : ℕ) (calls : List LearnerCall) (values : List Value) : Type 0 where
  pub learned : (slot : ℕ) (value : Value) → slice_get values slot ≡ Some value → IsLearned members calls slot value
  pub gap : IsFree members calls (length values)

-- something was learned behind the first free slot
abbrev pub HasGap : ℕ → List LearnerCall → ℕ → Type 0
HasGap members calls first = (slot : ℕ) × (value : Value) × (first < slot) × IsLearned members calls slot value
