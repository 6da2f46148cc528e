use Rattle.proposer.proofs.Rising.{fewer}
use Rattle.proposer.proofs.reports.drop_below.Goals as goal

pub loop-ahead-smaller-in-loop-ahead : goal.loop-ahead-smaller-in-loop-ahead
loop-ahead-smaller-in-loop-ahead c =
    fewer c.args.slot c.loop-ahead.ahead.items c.pop_front.new.self.items (c.is_below.ensures.0 c.loop-ahead-test.true) c.pop_front.ensures.rest

pub loop-ahead-smaller-in-loop-ahead-2 : goal.loop-ahead-smaller-in-loop-ahead-2
loop-ahead-smaller-in-loop-ahead-2 c =
    fewer c.args.slot c.loop-ahead.ahead.items c.pop_front.new.self.items (c.is_below.ensures.0 c.loop-ahead-test.true) c.pop_front.ensures.rest

pub loop-ahead-smaller-in-loop-ahead-3 : goal.loop-ahead-smaller-in-loop-ahead-3
loop-ahead-smaller-in-loop-ahead-3 c =
    fewer c.args.slot c.loop-ahead.ahead.items c.pop_front.new.self.items (c.is_below.ensures.0 c.loop-ahead-test.true) c.pop_front.ensures.rest
