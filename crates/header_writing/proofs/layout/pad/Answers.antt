use Rattle.header_writing.proofs.Appending.{one_more_zero}
use Rattle.header_writing.proofs.layout.pad.Goals as goal

pub loop-preserved : goal.loop-preserved
loop-preserved c = one_more_zero c.args.text.now.items c.loop.text.items c.push.new.self.items c.loop.counter
    c.loop.invariant c.in_ok-push.ensures.items
