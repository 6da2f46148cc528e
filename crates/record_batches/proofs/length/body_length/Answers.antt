use Rattle.std.proofs.Common.{ap, length, arith}
use Rattle.batch_types.specs.Canonical.{body_with}
use Rattle.record_batches.specs.Parts.{parts_held}
use Rattle.record_batches.proofs.Lengths.{body_is}
use Rattle.record_batches.proofs.Rooms.{written}
use Rattle.record_batches.proofs.length.body_length.Goals as goal

pub returns-then-length-lt-TOO_LONG-clause-known : goal.returns-then-length-lt-TOO_LONG-clause-known
returns-then-length-lt-TOO_LONG-clause-known c schema shapes =
    let whole = ap length (body_is schema c.args.batch.now shapes) in
    let held = ap (λ l. length (body_with (parts_held l).buffers)) c.deref.ensures.value in
    omega (arith, whole, held, c.columns_length-length.ensures.length, c.if-length-lt-TOO_LONG.true)

pub returns-else-length-lt-TOO_LONG-clause-long : goal.returns-else-length-lt-TOO_LONG-clause-long
returns-else-length-lt-TOO_LONG-clause-long c schema shapes =
    let whole = ap length (body_is schema c.args.batch.now shapes) in
    let held = ap (λ l. length (body_with (parts_held l).buffers)) c.deref.ensures.value in
    omega (arith, whole, held, c.columns_length-length.ensures.length, c.if-length-lt-TOO_LONG.false)

pub returns-then-length-lt-TOO_LONG-clause-room : goal.returns-then-length-lt-TOO_LONG-clause-room
returns-then-length-lt-TOO_LONG-clause-room c schema of_schema =
    written schema c.args.batch.now c.deref.result.now of_schema c.deref.ensures.value c.columns_length-length.ensures.sound

pub returns-else-length-lt-TOO_LONG-clause-room : goal.returns-else-length-lt-TOO_LONG-clause-room
returns-else-length-lt-TOO_LONG-clause-room c schema of_schema =
    written schema c.args.batch.now c.deref.result.now of_schema c.deref.ensures.value c.columns_length-length.ensures.sound
