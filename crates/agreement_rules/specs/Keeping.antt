-- Which record stands before a message goes out: Lamport, "Paxos Made Simple", section 2.5, where an acceptor keeps its
-- answer before it sends it, and a proposer the number of its attempt.
use Rattle.std.specs.Prelude.{ℕ, Option, Some, None}
use Rattle.ballots.specs.declared.record.Record.{Record}
use Rattle.ballots.specs.declared.record.Record.TheVariants.{Began, Promised, Accepted as HasAccepted}
use Rattle.ballots.specs.declared.message.Message.{Message}
use Rattle.ballots.specs.declared.message.Body.{Body}
use Rattle.ballots.specs.declared.message.Body.TheVariants.{Prepare, Promise, Nack, Accept, Accepted, Ask, Decided}

-- the record behind what is said of a slot
abbrev pub record_behind : ℕ → Body → Option Record
record_behind slot (Prepare ballot) = Some (Began ballot)
record_behind slot (Promise ballot report) = Some (Promised slot ballot)
record_behind slot (Nack ballot promised) = None
record_behind slot (Accept proposal) = None
record_behind slot (Accepted acceptance) = Some (HasAccepted slot acceptance)
record_behind slot Ask = None
record_behind slot (Decided value) = None

-- and behind a message
abbrev pub record_of : Message → Option Record
record_of m = record_behind m.slot m.body
