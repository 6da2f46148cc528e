-- What an acceptor answers to a Prepare of all slots from a first one on, and how it stands afterwards: Lamport, "Paxos
-- Made Simple", section 3, where one message prepares infinitely many instances, and an acceptor answers for each of
-- them as section 2.2 says of one.
use Rattle.std.specs.Prelude.{◌≡◌, ℕ, ◌≤◌, List, Option, Some, None, Vec}
use Rattle.std.specs.declared.alloc.Global.{Global}
use Rattle.std.specs.List.{All, Contains}
use Rattle.std.specs.List.Sorted.{IsStrictlyIncreasing}
use Rattle.std.specs.Map.{keys_of}
use Rattle.ballots.specs.Ballot.{Ballot, IsAbove, IsAtLeast}
use Rattle.ballots.specs.Limits.{max_slot}
use Rattle.ballots.specs.declared.acceptance.Acceptance.{Acceptance}
use Rattle.acceptor.specs.declared.answer.Answer.{Answer}
use Rattle.acceptor.specs.declared.answer.Answer.TheVariants.{Promise, PromiseFrom, Granted, Nack}
use Rattle.acceptor.specs.Standing.{Standing, IsSame}

-- a slot from this first one on, up to the last one that there is
abbrev pub IsFrom : ℕ → ℕ → Type 0
IsFrom first slot = (first ≤ slot) × (slot ≤ max_slot)

-- the ballot is above all that these slots have promised
abbrev pub AreBelow : (ℕ → Option Ballot) → ℕ → Ballot → Type 0
AreBelow promised first ballot = (slot : ℕ) → IsFrom first slot → IsAbove ballot (promised slot)

-- one of these slots has promised the ballot, and none of them a higher one
pub record IsGreatestFrom (promised : ℕ → Option Ballot) (first : ℕ) (ballot : Ballot) : Type 0 where
  pub is_promised : (slot : ℕ) × IsFrom first slot × (promised slot ≡ Some ballot)
  pub greatest : (slot : ℕ) → IsFrom first slot → IsAtLeast ballot (promised slot)

-- the same, or none where none of them has promised anything
abbrev pub IsHighestFrom : (ℕ → Option Ballot) → ℕ → Option Ballot → Type 0
IsHighestFrom promised first None = (slot : ℕ) → IsFrom first slot → promised slot ≡ None
IsHighestFrom promised first (Some ballot) = IsGreatestFrom promised first ballot

-- reports of acceptances, each with its slot
abbrev pub Reports : Type 0
Reports = Vec (ℕ × Acceptance) Global

-- what these slots have accepted, each slot once and by rising slots, and nothing else
pub record AreAcceptances (accepted : ℕ → Option Acceptance) (first : ℕ) (reports : List (ℕ × Acceptance)) : Type 0
  where
    pub rising : IsStrictlyIncreasing (keys_of reports)
    pub theirs : All (λ report. IsFrom first report.0 × (accepted report.0 ≡ Some report.1)) reports
    pub all : (slot : ℕ) (held : Acceptance) → IsFrom first slot → accepted slot ≡ Some held
        → Contains reports (slot, held)

-- each of these slots has this promise now, and every other is as before
pub record BindsFrom (old new : ℕ → Option Ballot) (first : ℕ) (ballot : Ballot) : Type 0 where
  pub from : (slot : ℕ) → IsFrom first slot → new slot ≡ Some ballot
  pub others : (slot : ℕ) → ¬ IsFrom first slot → new slot ≡ old slot

-- each of these slots has this promise now, every other slot is as before, and what is accepted stays
pub record SetsFrom (old new : Standing) (first : ℕ) (ballot : Ballot) : Type 0 where
  pub promises : BindsFrom old.promised new.promised first ballot
  pub acceptances : (slot : ℕ) → new.accepted slot ≡ old.accepted slot

-- the greatest of these promises is the ballot or above it, and nothing changes
pub record RefusesFrom (old new : Standing) (first : ℕ) (ballot promised : Ballot) : Type 0 where
  pub greatest : IsGreatestFrom old.promised first promised
  pub not_below : IsAtLeast promised (Some ballot)
  pub same : IsSame old new

-- A Prepare of all slots from the first one on is promised exactly where its ballot is above what each of them has
-- promised. The answer reports what they have accepted, and the promise of each of them is then this ballot. Else the
-- Nack names the greatest of their promises.
abbrev pub PreparesFrom : Standing → Standing → ℕ → Ballot → Answer → Type 0
PreparesFrom old new first ballot (PromiseFrom reports) =
    AreBelow old.promised first ballot × AreAcceptances old.accepted first reports.items × SetsFrom old new first ballot
PreparesFrom old new first ballot (Nack promised) = RefusesFrom old new first ballot promised
PreparesFrom old new first ballot (Promise report) = ⊥
PreparesFrom old new first ballot Granted = ⊥
