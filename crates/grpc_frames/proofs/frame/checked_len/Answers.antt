use Rattle.std.proofs.Common.{rules}
use Rattle.grpc_frames.proofs.frame.checked_len.Goals as goal

pub returns-in-1-clause-len : goal.returns-in-1-clause-len
returns-in-1-clause-len c = search rules steps 300000

pub returns-in-1-clause-flag : goal.returns-in-1-clause-flag
returns-in-1-clause-flag c = search rules steps 300000

pub returns-in-1-clause-limit : goal.returns-in-1-clause-limit
returns-in-1-clause-limit c = search rules steps 300000

pub returns-in-1-clause-fault : goal.returns-in-1-clause-fault
returns-in-1-clause-fault c = search rules steps 300000

pub returns-in_default-clause-len : goal.returns-in_default-clause-len
returns-in_default-clause-len c = search rules steps 300000

pub returns-in_default-clause-flag : goal.returns-in_default-clause-flag
returns-in_default-clause-flag c = search rules steps 300000

pub returns-in_default-clause-limit : goal.returns-in_default-clause-limit
returns-in_default-clause-limit c = search rules steps 300000

pub returns-in_default-clause-fault : goal.returns-in_default-clause-fault
returns-in_default-clause-fault c = search rules steps 300000

pub returns-clause-len : goal.returns-clause-len
returns-clause-len c = search rules steps 300000

pub returns-clause-flag : goal.returns-clause-flag
returns-clause-flag c = search rules steps 300000

pub returns-clause-limit : goal.returns-clause-limit
returns-clause-limit c = search rules steps 300000

pub returns-clause-fault : goal.returns-clause-fault
returns-clause-fault c = search rules steps 300000
