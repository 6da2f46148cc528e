use Rattle.flight_calls.proofs.Replying.{served_by}
use Rattle.flight_calls.proofs.responding.serve.Goals as goal

pub returns-in-Ok : goal.returns-in-Ok
returns-in-Ok g c =
    let b = g.B.Backend in
    served_by b.may_answer b.handed b.leaves b.stays c.args.b.now c.get.new.self c.get.ensures.same c.get.ensures.stays c.args.ticket.now c.in-Ok.answer c.in-Ok.ensures.served
