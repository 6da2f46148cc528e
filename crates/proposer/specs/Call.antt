-- What a proposer is asked, call by call: Lamport, "Paxos Made Simple", sections 2.2 and 2.5, and section 3 for all
-- slots from one on.
use Rattle.std.specs.Prelude.{ℕ, List, Option}
use Rattle.ballots.specs.Ballot.{Ballot}
use Rattle.ballots.specs.declared.acceptance.Acceptance.{Acceptance}
use Rattle.ballots.specs.declared.value.Value.{Value}

-- what a proposer is made with: its node, how many members there are, and the highest round that its node has begun
pub record Start : Type 0 where
  pub me : ℕ
  pub members : ℕ
  pub highest_round : ℕ

-- how far an attempt reaches: to one slot, or to all from one on
pub data Reach : Type 0 where
  OneSlot : Reach
  AllFrom : Reach

-- an attempt as it began: for which slot, and whether also for all behind it, what round its node had seen, its own
-- value for that slot, and the ballot that it got
pub record Begun : Type 0 where
  pub slot : ℕ
  pub reach : Reach
  pub seen_round : ℕ
  pub candidate : Value
  pub ballot : Ballot

-- a Promise that came, from anyone and at any ballot
pub record Promise : Type 0 where
  pub sender : ℕ
  pub slot : ℕ
  pub ballot : Ballot
  pub report : Option Acceptance

-- a Promise of all slots from one on that came, with what it reports of some of these
pub record PromiseFrom : Type 0 where
  pub sender : ℕ
  pub slot : ℕ
  pub ballot : Ballot
  pub reports : List (ℕ × Acceptance)

-- A begin that was refused is no call here, nor is a call to go on that was given nothing: they change nothing. The
-- value of a call that goes on is the candidate for that slot.
pub data ProposerCall : Type 0 where
  Begins : Begun → ProposerCall
  Promises : Promise → ProposerCall
  PromisesFrom : PromiseFrom → ProposerCall
  GoesOn : Value → ProposerCall
  Nacks : ℕ → Ballot → ProposerCall
