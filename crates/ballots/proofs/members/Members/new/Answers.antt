use Rattle.std.proofs.Common.{rules}
use Rattle.ballots.proofs.members.Members.new.Goals as goal

pub returns-then-count-le-MAX_MEMBERS-clause-within : goal.returns-then-count-le-MAX_MEMBERS-clause-within
returns-then-count-le-MAX_MEMBERS-clause-within c = search rules steps 300000

pub returns-then-count-le-MAX_MEMBERS-clause-value : goal.returns-then-count-le-MAX_MEMBERS-clause-value
returns-then-count-le-MAX_MEMBERS-clause-value c = search rules steps 300000

pub returns-else-count-gt0-clause-within : goal.returns-else-count-gt0-clause-within
returns-else-count-gt0-clause-within c = search rules steps 300000

pub returns-else-count-gt0-clause-value : goal.returns-else-count-gt0-clause-value
returns-else-count-gt0-clause-value c = search rules steps 300000
