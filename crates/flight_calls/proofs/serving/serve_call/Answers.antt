use Rattle.flight_calls.proofs.Calls.{served}
use Rattle.flight_calls.proofs.serving.serve_call.Goals as goal

pub returns-clause-served : goal.returns-clause-served
returns-clause-served g c =
    let b = g.B.Backend in
    served b.may_answer b.handed b.leaves b.stays c.args.b.now c.answer-answered.new.b c.answer-answered.result c.send_answer.result
    (g.R.Read.remaining c.args.r.now) (g.R.Read.remaining c.answer-answered.new.r) (g.W.Write.contents c.args.w.now) _
    c.answer-answered.ensures.answers c.send_answer.ensures
