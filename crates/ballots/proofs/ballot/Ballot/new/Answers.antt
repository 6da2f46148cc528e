use Rattle.std.proofs.Common.{rules}
use Rattle.ballots.proofs.ballot.Ballot.new.Goals as goal

pub returns-then-round-le-MAX_ROUND-clause-within : goal.returns-then-round-le-MAX_ROUND-clause-within
returns-then-round-le-MAX_ROUND-clause-within c = search rules steps 300000

pub returns-then-round-le-MAX_ROUND-clause-value : goal.returns-then-round-le-MAX_ROUND-clause-value
returns-then-round-le-MAX_ROUND-clause-value c = search rules steps 300000

pub returns-else-round-gt0-clause-within : goal.returns-else-round-gt0-clause-within
returns-else-round-gt0-clause-within c = search rules steps 300000

pub returns-else-round-gt0-clause-value : goal.returns-else-round-gt0-clause-value
returns-else-round-gt0-clause-value c = search rules steps 300000
