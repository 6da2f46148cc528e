use Rattle.call_reading.proofs.Headers.{no_header}
use Rattle.call_reading.proofs.upload_builder.shown.Goals as goal

pub returns-in-Err-clause-fault : goal.returns-in-Err-clause-fault
returns-in-Err-clause-fault c =
    no_header c.args.header.now c.read_message.result c.in-Err.fault c.in-Err.is c.in-Err.ensures.fault c.read_message.ensures.memory
