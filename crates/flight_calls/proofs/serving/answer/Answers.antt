use Rattle.std.proofs.lemmas.Result.{err_from_is_err_and}
use Rattle.flight_calls.proofs.Calls.{answered, refused, hands_one}
use Rattle.flight_calls.proofs.serving.answer.Goals as goal

pub returns-clause-answers : goal.returns-clause-answers
returns-clause-answers g c =
    let b = g.B.Backend in
    answered b.may_answer b.handed b.leaves b.stays c.args.b.now c.respond.new.b c.in_ok-asked.asked c.respond.result (g.R.Read.remaining c.args.r.now) (g.R.Read.remaining c.read_call.new.r)
    c.in_ok-asked.ensures c.respond.ensures

pub returns-clause-once : goal.returns-clause-once
returns-clause-once g c =
    let b = g.B.Backend in
    hands_one b.may_answer b.handed b.leaves b.stays c.args.b.now c.respond.new.b c.in_ok-asked.asked c.respond.result c.respond.ensures

pub returns-in_err-asked-clause-answers : goal.returns-in_err-asked-clause-answers
returns-in_err-asked-clause-answers g c =
    let b = g.B.Backend in
    let p = err_from_is_err_and c.from_residual.result c.from_residual.ensures.1 in
    rw (p.1, p.2)
    (refused b.may_answer b.handed b.leaves b.stays c.args.b.now c.in_err-asked.field-0.0 (g.R.Read.remaining c.args.r.now) (g.R.Read.remaining c.read_call.new.r) c.in_err-asked.ensures)
