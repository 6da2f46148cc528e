use Rattle.proposer.proofs.Members.{firsts_count, count_once}
use Rattle.proposer.proofs.laws.senders_count_once.Goals as goal

pub returns-clause-first : goal.returns-clause-first
returns-clause-first c = firsts_count

pub returns-clause-once : goal.returns-clause-once
returns-clause-once c = count_once
