use Rattle.proto_wire.specs.Flight.{data_descriptor}
use Rattle.call_reading.proofs.Steps.{no_message}
use Rattle.call_reading.proofs.upload_builder.data_in.Goals as goal

pub returns-in-Err-clause-fault : goal.returns-in-Err-clause-fault
returns-in-Err-clause-fault c =
    no_message data_descriptor c.args.message.now c.read.result c.in-Err.fault c.in-Err.is c.in-Err.ensures.fault c.read.ensures.memory
