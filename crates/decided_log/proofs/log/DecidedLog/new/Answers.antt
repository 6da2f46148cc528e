use Rattle.std.proofs.Common.{rules}
use Rattle.decided_log.proofs.log.DecidedLog.new.Goals as goal

pub invariant_of-result : goal.invariant_of-result
invariant_of-result c = search rules steps 300000

pub returns-clause-node : goal.returns-clause-node
returns-clause-node c = search rules steps 300000

pub returns-clause-empty : goal.returns-clause-empty
returns-clause-empty c = search rules steps 300000
