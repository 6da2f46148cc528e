use Rattle.std.proofs.Common.{rules}
use Rattle.flat_places.proofs.number.follow.Goals as goal

pub returns-in_err-offset-clause-read : goal.returns-in_err-offset-clause-read
returns-in_err-offset-clause-read c = search rules steps 300000

pub returns-in_err-offset-clause-only : goal.returns-in_err-offset-clause-only
returns-in_err-offset-clause-only c = search rules steps 300000

pub returns-in_err-offset-clause-fault : goal.returns-in_err-offset-clause-fault
returns-in_err-offset-clause-fault c = search rules steps 300000

pub returns-clause-read : goal.returns-clause-read
returns-clause-read c = search rules steps 300000

pub returns-clause-only : goal.returns-clause-only
returns-clause-only c = search rules steps 300000

pub returns-clause-fault : goal.returns-clause-fault
returns-clause-fault c = search rules steps 300000
