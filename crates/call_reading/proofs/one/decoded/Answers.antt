use Rattle.call_reading.proofs.Steps.{no_message}
use Rattle.call_reading.proofs.one.decoded.Goals as goal

pub returns-in-Err-clause-fault : goal.returns-in-Err-clause-fault
returns-in-Err-clause-fault g c =
    no_message g.M.ProtoMessage.descriptor c.args.message.now c.decode.result c.in-Err.fault c.in-Err.is c.in-Err.ensures.fault c.decode.ensures.memory
