use Rattle.std.proofs.Common.{subst}
use Rattle.node_core.specs.State.{NodeState}
use Rattle.node_core.proofs.Putting.{IsFirstFree, stays_planned, spent_refused, memory_refused}
use Rattle.node_core.proofs.node.Node.refuses_put.Goals as goal

pub returns-then-knows : goal.returns-then-knows
returns-then-knows c = λ views has.
    let planned = stays_planned c.args.self.now c.args.upload.now c.knows.result c.knows.ensures c.if-knows.true views has in
    (planned.plan, planned.due)

pub returns-then-is_none : goal.returns-then-is_none
returns-then-is_none c =
    spent_refused c.args.self.now c.args.upload.now c.knows.result c.knows.ensures c.if-knows.false c.first_free.result
    (subst (λ (s : NodeState). IsFirstFree s c.first_free.result) c.self.view_is c.first_free.ensures) c.if-is_none.ensures

pub returns : goal.returns
returns c =
    memory_refused c.args.self.now c.args.upload.now c.knows.result c.knows.ensures c.if-knows.false c.first_free.result
    (subst (λ (s : NodeState). IsFirstFree s c.first_free.result) c.self.view_is c.first_free.ensures) c.if-is_none.ensures
