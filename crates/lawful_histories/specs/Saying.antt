-- What a message says of a slot: Lamport, "Paxos Made Simple", section 2.2, the messages of the two phases, and section
-- 2.3, what is told of a chosen value.
use Rattle.std.specs.Prelude.{ℕ, ◌==◌, List, map, Option, Some, None, if◌then◌else◌}
use Rattle.ballots.specs.Ballot.{Ballot, IsBelow}
use Rattle.ballots.specs.declared.value.Value.{Value}
use Rattle.ballots.specs.declared.acceptance.Acceptance.{Acceptance}
use Rattle.ballots.specs.declared.message.Message.{Message}
use Rattle.ballots.specs.declared.message.Body.{Body}
use Rattle.ballots.specs.declared.message.Body.TheVariants as body

-- what an acceptor reports with a promise: the ballot at which it last accepted, with the value
abbrev pub Report : Type 0
Report = Option Acceptance

-- the report is of no ballot above this one
abbrev pub IsUpTo : Report → Ballot → Type 0
IsUpTo None c = Unit {0}
IsUpTo (Some report) c = IsBelow c report.ballot → ⊥

-- Promise and Accepted name their sender, which the other sayings need not.
pub data Saying : Type 0 where
  Silent : Saying
  Prepare : Ballot → Saying
  Promise : ℕ → Ballot → Report → Saying
  Accept : Ballot → Value → Saying
  Accepted : ℕ → Ballot → Value → Saying
  Decided : Value → Saying

-- a message is silent on all slots but its own
abbrev pub of_one : ℕ → ℕ → Saying → Saying
of_one slot s saying = if slot == s then saying else Silent

-- what a sender says by a body; a Nack and an Ask say nothing
abbrev pub saying : ℕ → Body → Saying
saying sender (body.Prepare ballot) = Prepare ballot
saying sender (body.Promise ballot report) = Promise sender ballot report
saying sender (body.Nack ballot promised) = Silent
saying sender (body.Accept proposal) = Accept proposal.ballot proposal.value
saying sender (body.Accepted acceptance) = Accepted sender acceptance.ballot acceptance.value
saying sender body.Ask = Silent
saying sender (body.Decided value) = Decided value

abbrev pub says : Message → ℕ → Saying
says m s = of_one m.slot s (saying m.sender m.body)

-- what these messages say of a slot, each in its place
abbrev pub sayings : List Message → ℕ → List Saying
sayings sent s = map (λ m. says m s) sent
