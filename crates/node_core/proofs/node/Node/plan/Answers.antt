use Rattle.std.proofs.Common.{sym, subst}
use Rattle.node_core.specs.State.{NodeState, NodeHas}
use Rattle.node_core.specs.Inputs.{input_of}
use Rattle.node_core.specs.Plans.{IsPlanned}
use Rattle.node_core.proofs.Standing.{planned_as}
use Rattle.node_core.proofs.node.Node.plan.Goals.{in-Put+in_ok-planned-in-Put, in-Tick+in_ok-planned-in-Tick, in-Deliver+in_ok-planned-in-Deliver}
use Rattle.node_core.proofs.node.Node.plan.Goals as goal

pub returns-clause-gives : goal.returns-clause-gives
returns-clause-gives c = λ views has.
    elim c.match-input.branch as (λ _. IsPlanned c.args.self.now views (input_of c.args.input) c.match-input.planned) [
      | in-Put+in_ok-planned-in-Put w ↦
          planned_as c.args.self.now views c.args.input c.match-input.planned w.in-Put.is w.planned-is (w.in_ok-planned-in-Put.ensures.gives views has)
      | in-Tick+in_ok-planned-in-Tick w ↦
          planned_as c.args.self.now views c.args.input c.match-input.planned w.in-Tick.is w.planned-is (w.in_ok-planned-in-Tick.ensures.gives views has)
      | in-Deliver+in_ok-planned-in-Deliver w ↦
          planned_as c.args.self.now views c.args.input c.match-input.planned w.in-Deliver.is w.planned-is (w.in_ok-planned-in-Deliver.ensures.gives views has)
    ]

pub returns-clause-same : goal.returns-clause-same
returns-clause-same c = λ views has.
    elim c.match-input.branch as (λ _. NodeHas c.match-input.self views) [
      | in-Put+in_ok-planned-in-Put w ↦
          subst (λ (s : NodeState). NodeHas s views) (sym w.self-is) (w.in_ok-planned-in-Put.ensures.same views has)
      | in-Tick+in_ok-planned-in-Tick w ↦ subst (λ (s : NodeState). NodeHas s views) (sym w.self-is) has
      | in-Deliver+in_ok-planned-in-Deliver w ↦
          subst (λ (s : NodeState). NodeHas s views) (sym w.self-is) (w.in_ok-planned-in-Deliver.ensures.same views has)
    ]
