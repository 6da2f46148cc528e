use Rattle.std.proofs.Common.{ap}
use Rattle.node_events.specs.Told.{result_of}
use Rattle.stored_nodes.proofs.Applying.{put_done, put_refused, put_failed, sent_tells}
use Rattle.stored_nodes.proofs.stored_node.StoredNode.put_copy.Goals as goal

pub returns-in-Err-clause-gives : goal.returns-in-Err-clause-gives
returns-in-Err-clause-gives g c =
    put_failed c.args.self.now c.step.new.self c.args.sent.now.items c.step.new.sent.items c.args.upload c.in-Err.fault c.in-Err.ensures.gives

pub returns-in-Sent-clause-gives : goal.returns-in-Sent-clause-gives
returns-in-Sent-clause-gives g c = λ views placed up.
    put_done c.args.self.now c.step.new.self c.args.sent.now.items c.step.new.sent.items views c.args.upload (result_of c.in-Ok.answer) c.in-Sent.first c.in-Sent.count
    (ap result_of c.in-Sent.is) (c.in-Ok.ensures.gives views placed up)

pub returns-in_default-clause-gives : goal.returns-in_default-clause-gives
returns-in_default-clause-gives g c = λ views placed up.
    put_refused c.args.self.now c.step.new.self c.args.sent.now.items c.step.new.sent.items views c.args.upload (result_of c.in-Ok.answer)
    (sent_tells c.in-Ok.answer c.in_default.not-Sent) (c.in-Ok.ensures.gives views placed up)
