use Rattle.std.proofs.Common.{Some, IfOk, refl, subst}
use Rattle.node_core.specs.Inputs.{input_of}
use Rattle.stored_nodes.specs.State.{StoredNodeState}
use Rattle.stored_nodes.specs.Parts.{PlanAnswers, IsUpFor, StandsStill}
use Rattle.stored_nodes.proofs.Planning.{stands_still, planned_for, plan_answers, refusal_answers, planned_is_up, refused_is_up}
use Rattle.stored_nodes.specs.contracts.stored_node.StoredNode.{the_view}
use Rattle.stored_nodes.proofs.stored_node.StoredNode.plan.Goals.{in-Ok, in-Err}
use Rattle.stored_nodes.proofs.stored_node.StoredNode.plan.Goals as goal

pub returns-clause-gives : goal.returns-clause-gives
returns-clause-gives g c =
    let old : StoredNodeState g.row.S.Denot = the_view g.row.S g.S.Stable c.self.inside in
    let left : StoredNodeState g.row.S.Denot = the_view g.row.S g.S.Stable (record {
      alloc = c.self.inside.alloc;
      hashing = c.self.inside.hashing;
      me = c.self.inside.me;
      config = c.self.inside.config;
      kept = c.self.inside.kept;
      node = Some c.plan.new.self;
    }) in
    let input = input_of c.args.input in
    subst (λ (s : StoredNodeState g.row.S.Denot). PlanAnswers s left input c.match-plan.result) c.self.view_is
    (elim c.match-plan.branch as (λ _. PlanAnswers old left input c.match-plan.result) [
      | in-Ok w ↦
          plan_answers old left c.in-Some.node input w.in-Ok.plan c.match-plan.result c.in-Some.is w.result-is
          (planned_for old left c.in-Some.node c.plan.new.self c.in-Some.is refl c.plan.ensures.me c.plan.ensures.config refl refl refl refl c.plan.ensures.same
          input w.in-Ok.plan w.in-Ok.ensures.can w.in-Ok.ensures.gives)
      | in-Err w ↦
          refusal_answers old left c.in-Some.node input w.in-Err.refusal w.reason_for.result c.match-plan.result c.in-Some.is w.result-is w.reason_for.ensures.told w.in-Err.ensures.gives
    ])

pub returns-clause-can : goal.returns-clause-can
returns-clause-can g c =
    let left : StoredNodeState g.row.S.Denot = the_view g.row.S g.S.Stable (record {
      alloc = c.self.inside.alloc;
      hashing = c.self.inside.hashing;
      me = c.self.inside.me;
      config = c.self.inside.config;
      kept = c.self.inside.kept;
      node = Some c.plan.new.self;
    }) in
    elim c.match-plan.branch as (λ _. IfOk c.match-plan.result (IsUpFor left)) [
      | in-Ok w ↦ planned_is_up left c.plan.new.self w.in-Ok.plan c.match-plan.result refl w.result-is w.in-Ok.ensures.can
      | in-Err w ↦ refused_is_up left w.reason_for.result c.match-plan.result w.result-is
    ]

pub returns-clause-same : goal.returns-clause-same
returns-clause-same g c =
    let old : StoredNodeState g.row.S.Denot = the_view g.row.S g.S.Stable c.self.inside in
    let left : StoredNodeState g.row.S.Denot = the_view g.row.S g.S.Stable (record {
      alloc = c.self.inside.alloc;
      hashing = c.self.inside.hashing;
      me = c.self.inside.me;
      config = c.self.inside.config;
      kept = c.self.inside.kept;
      node = Some c.plan.new.self;
    }) in
    subst (λ (s : StoredNodeState g.row.S.Denot). StandsStill s left) c.self.view_is
    (stands_still old left c.in-Some.node c.plan.new.self c.in-Some.is refl c.plan.ensures.me c.plan.ensures.config refl refl refl refl c.plan.ensures.same refl)
