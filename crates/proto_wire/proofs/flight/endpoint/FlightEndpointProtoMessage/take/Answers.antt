use Rattle.std.proofs.Common.{rules}
use Rattle.proto_wire.proofs.flight.endpoint.FlightEndpointProtoMessage.take.Goals as goal

pub returns-in-1-clause-taken : goal.returns-in-1-clause-taken
returns-in-1-clause-taken c = search rules steps 300000

pub returns-in-1-clause-fault : goal.returns-in-1-clause-fault
returns-in-1-clause-fault c = search rules steps 300000

pub returns-in-2-clause-taken : goal.returns-in-2-clause-taken
returns-in-2-clause-taken c = search rules steps 300000

pub returns-in-2-clause-fault : goal.returns-in-2-clause-fault
returns-in-2-clause-fault c = search rules steps 300000

pub returns-in_default-clause-taken : goal.returns-in_default-clause-taken
returns-in_default-clause-taken c = search rules steps 300000

pub returns-in_default-clause-fault : goal.returns-in_default-clause-fault
returns-in_default-clause-fault c = search rules steps 300000
