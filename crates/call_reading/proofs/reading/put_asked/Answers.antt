use Rattle.std.proofs.lemmas.Result.{err_from_is_err_and}
use Rattle.call_reading.proofs.Calls.{put_known, put_fails}
use Rattle.call_reading.proofs.reading.put_asked.Goals as goal

pub returns : goal.returns
returns g c = put_known c.in_ok-upload.upload (g.R.Read.remaining c.args.r.now) (g.R.Read.remaining c.read_upload.new.r) c.in_ok-upload.ensures

pub returns-in_err-upload : goal.returns-in_err-upload
returns-in_err-upload g c =
    let p = err_from_is_err_and c.from_residual.result c.from_residual.ensures.1 in
    rw (p.1, p.2)
    (put_fails c.in_err-upload.field-0.0 (g.R.Read.remaining c.args.r.now) (g.R.Read.remaining c.read_upload.new.r) c.in_err-upload.ensures)
