use Rattle.std.proofs.Common.{refl, sym, subst, ◌∙◌}
use Rattle.node_core.specs.Inputs.{input_of}
use Rattle.stored_nodes.specs.State.{StoredNodeState}
use Rattle.stored_nodes.specs.Steps.{CutApplies}
use Rattle.stored_nodes.proofs.Applying.{kept_and_down}
use Rattle.stored_nodes.specs.contracts.stored_node.StoredNode.{the_view}
use Rattle.stored_nodes.proofs.stored_node.StoredNode.cut.Goals as goal

pub returns : goal.returns
returns g c =
    let old : StoredNodeState g.row.S.Denot = the_view g.row.S g.S.Stable c.self.inside in
    let left : StoredNodeState g.row.S.Denot = the_view g.row.S g.S.Stable (record {
      alloc = c.self.inside.alloc;
      hashing = c.self.inside.hashing;
      me = c.self.inside.me;
      config = c.self.inside.config;
      kept = c.keep_alone-answer.new.kept;
      node = c.take.new.self;
    }) in
    subst (λ (s : StoredNodeState g.row.S.Denot). CutApplies s left (input_of c.args.input) c.keep_alone-answer.result) c.self.view_is
    (λ views up. kept_and_down old left views (input_of c.args.input) c.keep_alone-answer.result c.in-Some.node up (sym c.take.ensures.value ∙ c.in-Some.is)
    (λ has. c.keep_alone-answer.ensures views has) c.take.ensures.after refl refl)
