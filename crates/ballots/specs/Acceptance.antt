-- A value at a ballot: what is proposed and accepted, and what a promise reports.
use Rattle.ballots.specs.declared.value.Value.{Value}
use Rattle.ballots.specs.declared.acceptance.Acceptance.{Acceptance}
use Rattle.ballots.specs.Ballot.{Ballot}

-- this value at this ballot
abbrev pub acceptance : Ballot → Value → Acceptance
acceptance ballot value = record { ballot = ballot; value = value }
