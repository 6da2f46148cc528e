-- How an attempt for all slots from one on goes on from slot to slot, after one majority of promises: Lamport, "Paxos
-- Made Simple", section 3, where a leader sends each further value by an Accept alone.
use Rattle.std.specs.Prelude.{◌≡◌, ℕ, suc, ◌+◌, ◌≤◌, Bool, true, false, Option, Some, None, List, length, filter}
use Rattle.std.specs.List.{Contains}
use Rattle.ballots.specs.Limits.{max_slot}
use Rattle.ballots.specs.Ballot.{Ballot}
use Rattle.ballots.specs.declared.value.Value.{Value}
use Rattle.proposer.specs.Call.{AllFrom, Begun, ProposerCall, Begins, Promises, PromisesFrom, GoesOn, Nacks}
use Rattle.proposer.specs.Choosing.{PromiseReport, HasMajority, Chooses, reports_of}
use Rattle.proposer.specs.Attempting.{IsOpen, answering, counted_at, LeadsToAcceptBy}

abbrev pub goes_further : ProposerCall → Bool
goes_further (Begins begun) = false
goes_further (Promises promise) = false
goes_further (PromisesFrom promise) = false
goes_further (GoesOn candidate) = true
goes_further (Nacks slot ballot) = false

-- The slot behind those that an Accept was given for: the first one, with the majority, and one more each time that the
-- attempt went on.
abbrev pub next_slot : Begun → List ProposerCall → ℕ
next_slot begun since = suc (begun.slot + length (filter goes_further since))

-- the open attempt is for all slots from one on, has its majority, and this slot is the next one
pub record MayGoOn (members : ℕ) (calls : List ProposerCall) (slot : ℕ) : Type 0 where
  pub begun : Begun
  pub since : List ProposerCall
  pub open_is : IsOpen calls begun since
  pub reach_is : begun.reach ≡ AllFrom
  pub majority : HasMajority members (answering members begun since)
  pub slot_is : slot ≡ next_slot begun since
  pub within : slot ≤ max_slot

-- to which slot it may go on
abbrev pub IsNext : ℕ → List ProposerCall → Option ℕ → Type 0
IsNext members calls (Some slot) = MayGoOn members calls slot
IsNext members calls None = (slot : ℕ) → MayGoOn members calls slot → ⊥

-- the Accept for the next slot, of the value that the promises that count report highest of it, or of the candidate
pub record GoesOnTo (members : ℕ) (calls : List ProposerCall) (candidate : Value) (accept : ℕ × Ballot × Value) : Type 0 where
  pub may : MayGoOn members calls accept.0
  pub ballot_is : accept.1 ≡ may.begun.ballot
  pub value_is : Chooses candidate (reports_of (counted_at members may.begun accept.0 may.since)) accept.2

-- what is given to a call to go on: an Accept exactly where the attempt may go on
abbrev pub GoesOnWith : ℕ → List ProposerCall → Value → Option (ℕ × Ballot × Value) → Type 0
GoesOnWith members calls candidate (Some accept) = GoesOnTo members calls candidate accept
GoesOnWith members calls candidate None = (slot : ℕ) → MayGoOn members calls slot → ⊥

-- something is reported of the next slot or of one behind it
pub record HasReportAhead (members : ℕ) (calls : List ProposerCall) : Type 0 where
  pub next : ℕ
  pub may : MayGoOn members calls next
  pub slot : ℕ
  pub from_next : next ≤ slot
  pub report : PromiseReport
  pub reported : Contains (reports_of (counted_at members may.begun slot may.since)) report

-- the Accept that a call is given after these
abbrev pub Gives : ℕ → List ProposerCall → ProposerCall → ℕ × Ballot × Value → Type 0
Gives members calls (Begins begun) accept = ⊥
Gives members calls (Promises promise) accept = LeadsToAcceptBy members calls (Promises promise) accept
Gives members calls (PromisesFrom promise) accept = LeadsToAcceptBy members calls (PromisesFrom promise) accept
Gives members calls (GoesOn candidate) accept = GoesOnTo members calls candidate accept
Gives members calls (Nacks slot ballot) accept = ⊥
