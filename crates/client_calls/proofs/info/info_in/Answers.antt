use Rattle.std.proofs.Common.{sym}
use Rattle.client_calls.proofs.OneMessage.{no_info}
use Rattle.client_calls.proofs.info.info_in.Goals as goal

pub returns-in-Err : goal.returns-in-Err
returns-in-Err c =
    rw (sym c.of_wire.ensures) at (no_info c.args.message.now c.decode.result c.in-Err.fault c.in-Err.is c.decode.ensures.only)
