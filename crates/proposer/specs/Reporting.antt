-- What a promise of all slots from one on says of each of them: Lamport, "Paxos Made Simple", section 3, where one
-- promise stands for one of each instance.
use Rattle.std.specs.Prelude.{ℕ, suc, ◌==◌, nat_le, ◌&&◌, cond, Bool, true, Option, Some, None, List, [], ◌∷◌}
use Rattle.ballots.specs.declared.acceptance.Acceptance.{Acceptance}
use Rattle.proposer.specs.Call.{Reach, OneSlot, AllFrom, Promise, PromiseFrom}
use Rattle.proposer.specs.Call.{ProposerCall, Begins, Promises, PromisesFrom, GoesOn, Nacks}

-- what is reported of the slot
abbrev pub report_of : ℕ → List (ℕ × Acceptance) → Option Acceptance
report_of slot [] = None
report_of slot (report ∷ reports) = cond (report.0 == slot) (Some report.1) (report_of slot reports)

-- the slots rise, from this one on
abbrev pub rises_from : ℕ → List (ℕ × Acceptance) → Bool
rises_from least [] = true
rises_from least (report ∷ reports) = nat_le least report.0 && rises_from (suc report.0) reports

-- what it says of a slot, as a promise of one slot with the report of this
abbrev pub said_of : ℕ → PromiseFrom → Promise
said_of slot promise = record {
  sender = promise.sender;
  slot = promise.slot;
  ballot = promise.ballot;
  report = report_of slot promise.reports;
}

-- ---- what a call promises

-- to an attempt for one slot
abbrev pub promise_of_one : ProposerCall → Option Promise
promise_of_one (Begins begun) = None
promise_of_one (Promises promise) = Some promise
promise_of_one (PromisesFrom promise) = None
promise_of_one (GoesOn candidate) = None
promise_of_one (Nacks slot ballot) = None

-- and of a slot to an attempt for all from one on: nothing, if the slots of its reports do not rise from its own on
abbrev pub promise_of_all : ℕ → ProposerCall → Option Promise
promise_of_all slot (Begins begun) = None
promise_of_all slot (Promises promise) = None
promise_of_all slot (PromisesFrom promise) =
    cond (rises_from promise.slot promise.reports) (Some (said_of slot promise)) None
promise_of_all slot (GoesOn candidate) = None
promise_of_all slot (Nacks first ballot) = None

-- A promise counts for an attempt of its own reach alone.
abbrev pub promise_in : Reach → ℕ → ProposerCall → Option Promise
promise_in OneSlot slot call = promise_of_one call
promise_in AllFrom slot call = promise_of_all slot call
