use Rattle.std.proofs.Common.{arith}
use Rattle.resumed_nodes.proofs.Taking.{heard_more, meets, heard_all}
use Rattle.resumed_nodes.proofs.hearing.hear_all.Goals as goal

pub returns-in-Err : goal.returns-in-Err
returns-in-Err g c =
    meets c.args.seat.now c.loop-message.seat c.hear.new.seat c.args.told.now c.loop-message.message-index c.message-item.result (omega (arith, c.loop-message-test.true)) c.message-item.is
    c.loop-message.invariant c.in-Err.fault c.in-Err.ensures.gives

pub loop-message-preserved : goal.loop-message-preserved
loop-message-preserved g c =
    heard_more c.args.seat.now c.loop-message.seat c.hear.new.seat c.args.told.now c.loop-message.message-index c.message-item.result (omega (arith, c.loop-message-test.true)) c.message-item.is
    c.loop-message.invariant c.in-Ok.ensures.gives

pub returns : goal.returns
returns g c =
    heard_all c.args.seat.now c.loop-message.seat c.args.told.now c.loop-message.message-index (omega (arith, c.loop-message-test.false)) c.loop-message.invariant
