-- Turns of an acceptor, one after the other: Lamport, "Paxos Made Simple", sections 2.2 and 3.
use Rattle.std.specs.Prelude.{ℕ, List, [], ◌∷◌, Option, Some, None}
use Rattle.ballots.specs.Ballot.{Ballot}
use Rattle.ballots.specs.declared.acceptance.Acceptance.{Acceptance}
use Rattle.ballots.specs.declared.record.Record.{Record}
use Rattle.ballots.specs.declared.record.Record.TheVariants.{Promised, Accepted, PromisedFrom}
use Rattle.acceptor.specs.declared.answer.Answer.{Answer}
use Rattle.acceptor.specs.declared.answer.Answer.TheVariants.{Promise, PromiseFrom, Granted, Nack}
use Rattle.acceptor.specs.Standing.{Standing, IsSame}
use Rattle.acceptor.specs.Answering.{Prepares, Accepts}
use Rattle.acceptor.specs.Ranged.{PreparesFrom}

-- what an acceptor is asked, and what it answers: a Prepare of a slot at a ballot, a Prepare of all slots from a first
-- one on, or an Accept of a value at a ballot for a slot
pub data Turn : Type 0 where
  PrepareTurn : ℕ → Ballot → Answer → Turn
  PrepareFromTurn : ℕ → Ballot → Answer → Turn
  AcceptTurn : ℕ → Acceptance → Answer → Turn

abbrev pub Takes : Standing → Standing → Turn → Type 0
Takes old new (PrepareTurn slot ballot answer) = Prepares old new slot ballot answer
Takes old new (PrepareFromTurn first ballot answer) = PreparesFrom old new first ballot answer
Takes old new (AcceptTurn slot proposal answer) = Accepts old new slot proposal answer

-- these turns, one after the other
abbrev pub IsStandingAfter : Standing → List Turn → Standing → Type 0
IsStandingAfter old [] new = IsSame old new
IsStandingAfter old (turn ∷ turns) new = (mid : Standing) × Takes old mid turn × IsStandingAfter mid turns new

-- the record that is kept before the answer goes out: of a refusal there is none
abbrev pub record_of : Turn → Option Record
record_of (PrepareTurn slot ballot (Promise report)) = Some (Promised slot ballot)
record_of (PrepareTurn slot ballot (PromiseFrom reports)) = None
record_of (PrepareTurn slot ballot Granted) = None
record_of (PrepareTurn slot ballot (Nack promised)) = None
record_of (PrepareFromTurn first ballot (PromiseFrom reports)) = Some (PromisedFrom first ballot)
record_of (PrepareFromTurn first ballot (Promise report)) = None
record_of (PrepareFromTurn first ballot Granted) = None
record_of (PrepareFromTurn first ballot (Nack promised)) = None
record_of (AcceptTurn slot proposal Granted) = Some (Accepted slot proposal)
record_of (AcceptTurn slot proposal (Promise report)) = None
record_of (AcceptTurn slot proposal (PromiseFrom reports)) = None
record_of (AcceptTurn slot proposal (Nack promised)) = None
