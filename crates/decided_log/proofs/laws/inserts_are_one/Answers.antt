use Rattle.std.proofs.Common.{rules}
use Rattle.decided_log.proofs.laws.inserts_are_one.Goals as goal

pub returns-clause-one : goal.returns-clause-one
returns-clause-one c = search rules steps 300000

pub returns-clause-keeps : goal.returns-clause-keeps
returns-clause-keeps c = search rules steps 300000

pub returns-clause-takes : goal.returns-clause-takes
returns-clause-takes c = search rules steps 300000
