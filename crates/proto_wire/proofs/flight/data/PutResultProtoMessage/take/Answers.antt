use Rattle.std.proofs.Common.{rules}
use Rattle.proto_wire.proofs.flight.data.PutResultProtoMessage.take.Goals as goal

pub returns-in_err-self-clause-taken : goal.returns-in_err-self-clause-taken
returns-in_err-self-clause-taken c = search rules steps 300000

pub returns-in_err-self-clause-fault : goal.returns-in_err-self-clause-fault
returns-in_err-self-clause-fault c = search rules steps 300000

pub returns-in_ok-self-clause-taken : goal.returns-in_ok-self-clause-taken
returns-in_ok-self-clause-taken c = search rules steps 300000

pub returns-in_ok-self-clause-fault : goal.returns-in_ok-self-clause-fault
returns-in_ok-self-clause-fault c = search rules steps 300000

pub returns-else-number-eq1-clause-taken : goal.returns-else-number-eq1-clause-taken
returns-else-number-eq1-clause-taken c = search rules steps 300000

pub returns-else-number-eq1-clause-fault : goal.returns-else-number-eq1-clause-fault
returns-else-number-eq1-clause-fault c = search rules steps 300000
