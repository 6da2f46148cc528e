use Rattle.std.proofs.Common.{subst}
use Rattle.node_core.proofs.Beginning.{StandsSomehow, tick_planned, tick_can}
use Rattle.node_core.proofs.node.Node.plan_tick.Goals as goal

pub returns-clause-gives : goal.returns-clause-gives
returns-clause-gives c = λ views has.
    tick_planned c.args.self.now views has c.args.left c.in_ok-step.step (c.in_ok-step.ensures.gives views has)

pub returns-clause-can : goal.returns-clause-can
returns-clause-can c =
    tick_can c.args.self.now (subst StandsSomehow c.self.view_is c.self.invariant) c.args.left c.in_ok-step.step c.in_ok-step.ensures.gives c.in_ok-step.ensures.can
