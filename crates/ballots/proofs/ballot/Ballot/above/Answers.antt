use Rattle.std.proofs.Common.{rules}
use Rattle.ballots.proofs.ballot.Ballot.above.Goals as goal

pub returns-then-seen_round-ge-MAX_ROUND-clause-spent : goal.returns-then-seen_round-ge-MAX_ROUND-clause-spent
returns-then-seen_round-ge-MAX_ROUND-clause-spent c = search rules steps 300000

pub returns-then-seen_round-ge-MAX_ROUND-clause-value : goal.returns-then-seen_round-ge-MAX_ROUND-clause-value
returns-then-seen_round-ge-MAX_ROUND-clause-value c = search rules steps 300000

pub returns-clause-spent : goal.returns-clause-spent
returns-clause-spent c = search rules steps 300000

pub returns-clause-value : goal.returns-clause-value
returns-clause-value c = search rules steps 300000
