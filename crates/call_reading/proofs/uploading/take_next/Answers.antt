use Rattle.std.proofs.Common.{arith}
use Rattle.std.proofs.lemmas.Result.{err_from_is_err_and}
use Rattle.call_reading.proofs.Uploads.{further_read}
use Rattle.call_reading.proofs.uploading.take_next.Goals as goal

pub returns-in_err-take-in-Message-clause-read : goal.returns-in_err-take-in-Message-clause-read
returns-in_err-take-in-Message-clause-read g c =
    let p = err_from_is_err_and c.from_residual-in_err-take-in-Message.result c.from_residual-in_err-take-in-Message.ensures.1 in
    rw (p.1, p.2)
    (further_read c.args.left c.args.incoming.now c.take.new.self (g.R.Read.remaining c.args.r.now) (g.R.Read.remaining c.next_part.new.r) c.in_ok-message.field-0 c.in-Message.message
    c.deref.result.now c.in_err-take-in-Message.field-0.0 c.in_ok-message.ensures c.in-Message.is c.deref.ensures.value (omega (arith, c.if-left-eq0.false))
    c.in_err-take-in-Message.ensures.fault)
