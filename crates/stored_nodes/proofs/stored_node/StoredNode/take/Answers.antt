use Rattle.std.proofs.Common.{Some, Ok, Err, refl, subst}
use Rattle.agreement_rules.specs.Views.{Views}
use Rattle.histories.specs.Due.{Input}
use Rattle.stored_nodes.specs.State.{StoredNodeState, IsPlaced}
use Rattle.stored_nodes.specs.Parts.{IsPlannedFor, IsDoneFor, IsBrokenOff}
use Rattle.stored_nodes.proofs.Planning.{done_for, broken_off}
use Rattle.stored_nodes.specs.contracts.stored_node.StoredNode.{the_view}
use Rattle.stored_nodes.proofs.stored_node.StoredNode.take.Goals as goal

pub returns-in-Ok-clause-gives : goal.returns-in-Ok-clause-gives
returns-in-Ok-clause-gives g c =
    let old : StoredNodeState g.row.S.Denot = the_view g.row.S g.S.Stable c.self.inside in
    let left : StoredNodeState g.row.S.Denot = the_view g.row.S g.S.Stable (record {
      alloc = c.self.inside.alloc;
      hashing = c.self.inside.hashing;
      me = c.self.inside.me;
      config = c.self.inside.config;
      kept = c.keep_and_commit.new.kept;
      node = Some c.keep_and_commit.new.node;
    }) in
    subst (λ (s : StoredNodeState g.row.S.Denot). (views : Views) (input : Input) → IsPlaced s → IsPlannedFor s views input c.args.plan → IsDoneFor s left views input c.args.plan) c.self.view_is
    (λ views input placed due. done_for old left views input c.args.plan placed due c.in-Some.node c.in-Some.is refl refl (Ok c.in-Ok.field-0) c.in-Ok.field-0
    c.keep_and_commit.new.node refl refl c.keep_and_commit.ensures.me c.keep_and_commit.ensures.config c.in-Ok.ensures.stands c.in-Ok.ensures.kept)

pub returns-in-Err-clause-gives : goal.returns-in-Err-clause-gives
returns-in-Err-clause-gives g c =
    let old : StoredNodeState g.row.S.Denot = the_view g.row.S g.S.Stable c.self.inside in
    let left : StoredNodeState g.row.S.Denot = the_view g.row.S g.S.Stable (record {
      alloc = c.self.inside.alloc;
      hashing = c.self.inside.hashing;
      me = c.self.inside.me;
      config = c.self.inside.config;
      kept = c.keep_and_commit.new.kept;
      node = c.replace.new.dest;
    }) in
    subst (λ (s : StoredNodeState g.row.S.Denot). (views : Views) (input : Input) → IsPlaced s → IsPlannedFor s views input c.args.plan → IsBrokenOff s left views input c.args.plan) c.self.view_is
    (λ views input placed due. broken_off old left views input c.args.plan placed due c.in-Some.node c.in-Some.is refl refl c.records_are_due.ensures.planned {T = Unit {0}} (Err c.in-Err.fault)
    c.in-Err.fault refl c.replace.ensures.after c.in-Err.ensures.kept)
