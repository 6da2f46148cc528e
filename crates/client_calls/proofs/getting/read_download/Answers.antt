use Rattle.std.proofs.Common.{refl, arith}
use Rattle.std.proofs.lemmas.Result.{err_from_is_err_and}
use Rattle.downloads.specs.declared.downloading.Downloading.TheVariants as come
use Rattle.downloads.specs.Taken.{GivesDownload, HasDownload, HasTaken}
use Rattle.client_calls.proofs.Came.{none_came, short_came, value_came, no_value_came, fault_came, too_many_came}
use Rattle.client_calls.proofs.getting.read_download.Goals as goal

pub loop-count-init : goal.loop-count-init
loop-count-init g c = record {
  ready = tt;
  came = none_came (HasTaken come.Begun) (g.R.Read.remaining c.args.r.now) (record { fit = tt; taken = refl });
}

pub returns-in_err-message : goal.returns-in_err-message
returns-in_err-message g c =
    let p = err_from_is_err_and c.from_residual.result c.from_residual.ensures.1 in
    rw (p.1, p.2)
    (fault_came c.no_frame_begins_another.ensures GivesDownload HasDownload (HasTaken c.loop-count.downloading) c.loop-count._count (g.R.Read.remaining c.args.r.now) (g.R.Read.remaining c.loop-count.r)
    (g.R.Read.remaining c.next_part.new.r) c.in_err-message.field-0.0 c.loop-count-test.true c.loop-count.invariant.came c.in_err-message.ensures)

pub returns : goal.returns
returns g c =
    let most = c.loop-count.auto._count-end in
    let least = c.loop-count-test.false in
    too_many_came c.no_frame_begins_another.ensures GivesDownload HasDownload (HasTaken c.loop-count.downloading) c.loop-count._count (g.R.Read.remaining c.args.r.now) (g.R.Read.remaining c.loop-count.r)
    (omega (arith, most, least)) c.loop-count.invariant.came

pub returns-in-Some : goal.returns-in-Some
returns-in-Some g c =
    value_came c.no_frame_begins_another.ensures GivesDownload HasDownload (HasTaken c.loop-count.downloading) c.loop-count._count (g.R.Read.remaining c.args.r.now) (g.R.Read.remaining c.loop-count.r)
    (g.R.Read.remaining c.next_part.new.r) c.in-Some.download c.loop-count-test.true c.loop-count.invariant.came (rw c.in-End.is at c.in_ok-message.ensures) (rw c.in-Some.is at c.in_ok-download-in-End.ensures)

pub returns-in-None : goal.returns-in-None
returns-in-None g c =
    no_value_came c.no_frame_begins_another.ensures GivesDownload HasDownload (HasTaken c.loop-count.downloading) c.loop-count._count (g.R.Read.remaining c.args.r.now) (g.R.Read.remaining c.loop-count.r)
    (g.R.Read.remaining c.next_part.new.r) c.loop-count.invariant.came (rw c.in-End.is at c.in_ok-message.ensures) (rw c.in-None.is at c.in_ok-download-in-End.ensures)

pub loop-count-preserved : goal.loop-count-preserved
loop-count-preserved g c = record {
  ready = c.in_ok-downloading-in-Message.ensures.ready;
  came =
      short_came (HasTaken c.loop-count.downloading) (HasTaken c.in_ok-downloading-in-Message.downloading) c.loop-count._count (g.R.Read.remaining c.args.r.now) (g.R.Read.remaining c.loop-count.r)
      (g.R.Read.remaining c.next_part.new.r) c.in-Message.message c.loop-count.invariant.came (rw c.in-Message.is at c.in_ok-message.ensures)
      (rw c.deref.ensures.value at c.in_ok-downloading-in-Message.ensures.taken);
}
