use Rattle.std.proofs.Common.{arith, Ok, ap}
use Rattle.std.proofs.lemmas.Result.{err_from_is_err_and}
use Rattle.call_reading.proofs.Uploads.{read_starts, read_goes_on, read_ends, read_breaks, opening_breaks}
use Rattle.call_reading.proofs.uploading.read_upload.Goals as goal

pub returns-in_err-incoming : goal.returns-in_err-incoming
returns-in_err-incoming g c =
    let p = err_from_is_err_and c.from_residual.result c.from_residual.ensures.1 in
    rw (p.1, p.2)
    (opening_breaks (g.R.Read.remaining c.args.r.now) (g.R.Read.remaining c.open.new.r) c.in_err-incoming.field-0.0 c.in_err-incoming.ensures.read)

pub loop-further-init : goal.loop-further-init
loop-further-init g c = (
  c.in_ok-incoming.ensures.on_its_way,
  omega arith,
  read_starts c.in_ok-incoming.incoming (g.R.Read.remaining c.args.r.now) (g.R.Read.remaining c.open.new.r) c.in_ok-incoming.ensures.read,
)

pub returns-then-not-branch : goal.returns-then-not-branch
returns-then-not-branch g c =
    read_ends _ 0 c.loop-further.incoming c.take_next.new.incoming (g.R.Read.remaining c.args.r.now) (g.R.Read.remaining c.loop-further.r) (g.R.Read.remaining c.take_next.new.r)
    c.finish.result c.loop-further.invariant.1 c.loop-further.invariant.0 c.loop-further.invariant.2 (rw c.if-not-branch.true at c.in_ok-take_next.ensures.read) c.finish.ensures

pub returns-in_err-take_next : goal.returns-in_err-take_next
returns-in_err-take_next g c =
    let p = err_from_is_err_and c.from_residual-in_err-take_next.result c.from_residual-in_err-take_next.ensures.1 in
    rw (p.1, p.2)
    (read_breaks _ _ c.loop-further.incoming c.take_next.new.incoming (g.R.Read.remaining c.args.r.now) (g.R.Read.remaining c.loop-further.r) (g.R.Read.remaining c.take_next.new.r)
    c.in_err-take_next.field-0.0 (omega (arith, c.loop-further-test.true)) c.loop-further.invariant.0 c.loop-further.invariant.2 c.in_err-take_next.ensures.read)

pub loop-further-preserved : goal.loop-further-preserved
loop-further-preserved g c = (
  c.in_ok-take_next.ensures.on_its_way,
  omega (arith, c.loop-further-test.true, c.in_ok-take_next.ensures.room (ap Ok c.if-not-branch.false)),
  read_goes_on _ _ c.loop-further.incoming c.take_next.new.incoming (g.R.Read.remaining c.args.r.now) (g.R.Read.remaining c.loop-further.r) (g.R.Read.remaining c.take_next.new.r)
      c.loop-further.invariant.2 (rw c.if-not-branch.false at c.in_ok-take_next.ensures.read),
)
