use Rattle.std.proofs.Common.{arith, None}
use Rattle.proto_messages.proofs.Strips.{last_byte, byte_goes_on, byte_is_not}
use Rattle.proto_messages.proofs.CallerLemmas.{gave_up}
use Rattle.proto_messages.proofs.stripping.strip_number.Goals as goal

pub loop-left-preserved : goal.loop-left-preserved
loop-left-preserved c = λ left later.
    c.loop-left.invariant left (byte_goes_on c.loop-left.rest.now c.in_ok-rest.rest.now c.loop-left.left (omega arith) (omega arith) c.in_ok-rest.ensures left later)

pub returns-in_err-rest : goal.returns-in_err-rest
returns-in_err-rest c =
    gave_up _ _ c.from_residual.result c.from_residual.ensures (c.loop-left.invariant None (byte_is_not c.loop-left.rest.now c.loop-left.left (omega arith) (omega arith) c.in_err-rest.ensures))

pub returns : goal.returns
returns c = c.loop-left.invariant _ (last_byte c.loop-left.rest.now c.loop-left.left _ (omega arith) c.strip_byte-2.ensures)
