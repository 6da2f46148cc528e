use Rattle.seats.proofs.Walking.{none_is_false, differs_all}
use Rattle.seats.proofs.agreeing.are_own.Goals as goal

pub returns-in-None : goal.returns-in-None
returns-in-None c = none_is_false (λ all.
    differs_all _ c.args.me c.args.sent.now c.args.steps.now c.loop-step.step-index c.step-item.result c.loop-step.flags.now c.loop-step.left.now c.loop-step-test.true
    c.step-item.is c.in-len1-up.len_at_least c.in-None.ensures (c.loop-step.invariant.1 all))
