use Rattle.std.proofs.Common.{rules}
use Rattle.proto_wire.proofs.flight.data.FlightDataProtoMessage.take.Goals as goal

pub returns-in_err-merge_one-in-1-clause-taken : goal.returns-in_err-merge_one-in-1-clause-taken
returns-in_err-merge_one-in-1-clause-taken c = search rules steps 300000

pub returns-in_err-self-in-2-clause-taken : goal.returns-in_err-self-in-2-clause-taken
returns-in_err-self-in-2-clause-taken c = search rules steps 300000

pub returns-in_err-self-in-2-clause-fault : goal.returns-in_err-self-in-2-clause-fault
returns-in_err-self-in-2-clause-fault c = search rules steps 300000

pub returns-in_err-self-in-3-clause-taken : goal.returns-in_err-self-in-3-clause-taken
returns-in_err-self-in-3-clause-taken c = search rules steps 300000

pub returns-in_err-self-in-3-clause-fault : goal.returns-in_err-self-in-3-clause-fault
returns-in_err-self-in-3-clause-fault c = search rules steps 300000

pub returns-in_err-self-in-1000-clause-taken : goal.returns-in_err-self-in-1000-clause-taken
returns-in_err-self-in-1000-clause-taken c = search rules steps 300000

pub returns-in_err-self-in-1000-clause-fault : goal.returns-in_err-self-in-1000-clause-fault
returns-in_err-self-in-1000-clause-fault c = search rules steps 300000

pub returns-in_ok-merge_one-in-1-clause-taken : goal.returns-in_ok-merge_one-in-1-clause-taken
returns-in_ok-merge_one-in-1-clause-taken c = search rules steps 300000

pub returns-in_ok-merge_one-in-1-clause-fault : goal.returns-in_ok-merge_one-in-1-clause-fault
returns-in_ok-merge_one-in-1-clause-fault c = search rules steps 300000

pub returns-in_ok-self-in-2-clause-taken : goal.returns-in_ok-self-in-2-clause-taken
returns-in_ok-self-in-2-clause-taken c = search rules steps 300000

pub returns-in_ok-self-in-2-clause-fault : goal.returns-in_ok-self-in-2-clause-fault
returns-in_ok-self-in-2-clause-fault c = search rules steps 300000

pub returns-in_ok-self-in-3-clause-taken : goal.returns-in_ok-self-in-3-clause-taken
returns-in_ok-self-in-3-clause-taken c = search rules steps 300000

pub returns-in_ok-self-in-3-clause-fault : goal.returns-in_ok-self-in-3-clause-fault
returns-in_ok-self-in-3-clause-fault c = search rules steps 300000

pub returns-in_ok-self-in-1000-clause-taken : goal.returns-in_ok-self-in-1000-clause-taken
returns-in_ok-self-in-1000-clause-taken c = search rules steps 300000

pub returns-in_ok-self-in-1000-clause-fault : goal.returns-in_ok-self-in-1000-clause-fault
returns-in_ok-self-in-1000-clause-fault c = search rules steps 300000

pub returns-in_default-clause-taken : goal.returns-in_default-clause-taken
returns-in_default-clause-taken c = search rules steps 300000

pub returns-in_default-clause-fault : goal.returns-in_default-clause-fault
returns-in_default-clause-fault c = search rules steps 300000
