use Rattle.client_command.proofs.Visited.{compared}
use Rattle.client_command.proofs.visiting.compare_at.Goals as goal

pub returns : goal.returns
returns g c =
    compared c.args.ticket.now c.args.frames.now c.args.uri.now c.in-Some.address c.in_ok-others.others c.deref.result.now (g.C.Connect.log c.args.connect.now) (g.C.Connect.log c.frames_at.new.connect)
    c.in-Some.ensures c.in_ok-others.ensures c.deref.ensures.value c.compare.result c.compare.ensures
