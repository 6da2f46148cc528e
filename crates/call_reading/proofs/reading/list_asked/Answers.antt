use Rattle.std.proofs.lemmas.Result.{err_from_is_err_and}
use Rattle.call_reading.proofs.Calls.{all_known, all_fails}
use Rattle.call_reading.proofs.reading.list_asked.Goals as goal

pub returns : goal.returns
returns g c = all_known (g.R.Read.remaining c.args.r.now) (g.R.Read.remaining c.read_criteria.new.r) c.in_ok-read_criteria.ensures

pub returns-in_err-read_criteria : goal.returns-in_err-read_criteria
returns-in_err-read_criteria g c =
    let p = err_from_is_err_and c.from_residual.result c.from_residual.ensures.1 in
    rw (p.1, p.2)
    (all_fails c.in_err-read_criteria.field-0.0 (g.R.Read.remaining c.args.r.now) (g.R.Read.remaining c.read_criteria.new.r) c.in_err-read_criteria.ensures)
