-- Which ballots a message names: Lamport, "Paxos Made Simple", sections 2.2 and 2.3.
use Rattle.std.specs.Prelude.{◌≡◌, ◌⊎◌, Option, Some, None}
use Rattle.ballots.specs.Ballot.{Ballot}
use Rattle.ballots.specs.declared.acceptance.Acceptance.{Acceptance}
use Rattle.ballots.specs.declared.message.Body.{Body}
use Rattle.ballots.specs.declared.message.Body.TheVariants.{Prepare, Promise, Nack, Accept, Accepted, Ask, Decided}

-- that at which something was accepted, where a report says so
abbrev pub ReportNames : Option Acceptance → Ballot → Type 0
ReportNames None named = ⊥
ReportNames (Some report) named = named ≡ report.ballot

-- A Promise names its ballot, and that of what it reports; a Nack the refused ballot, and the promised one.
abbrev pub Names : Body → Ballot → Type 0
Names (Prepare ballot) named = named ≡ ballot
Names (Promise ballot report) named = (named ≡ ballot) ⊎ ReportNames report named
Names (Nack ballot promised) named = (named ≡ ballot) ⊎ (named ≡ promised)
Names (Accept proposal) named = named ≡ proposal.ballot
Names (Accepted acceptance) named = named ≡ acceptance.ballot
Names Ask named = ⊥
Names (Decided value) named = ⊥
