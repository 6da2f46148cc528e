use Rattle.std.proofs.Common.{List, refl, subst}
use Rattle.ballots.specs.declared.record.Record.{Record}
use Rattle.node_core.specs.State.{Starts}
use Rattle.stored_nodes.specs.State.{StoredNodeState}
use Rattle.stored_nodes.specs.Parts.{IsRecovered}
use Rattle.stored_nodes.proofs.Reopening.{reopened}
use Rattle.stored_nodes.specs.contracts.stored_node.StoredNode.{the_view}
use Rattle.stored_nodes.proofs.stored_node.StoredNode.recover.Goals as goal

pub returns-in-Ok-open-clause-gives : goal.returns-in-Ok-open-clause-gives
returns-in-Ok-open-clause-gives g c =
    let old : StoredNodeState g.row.S.Denot = the_view g.row.S g.S.Stable c.self.inside in
    let left : StoredNodeState g.row.S.Denot = the_view g.row.S g.S.Stable (record {
      alloc = c.self.inside.alloc;
      hashing = c.self.inside.hashing;
      me = c.self.inside.me;
      config = c.self.inside.config;
      kept = c.recover.new.self;
      node = c.replace.new.dest;
    }) in
    subst (λ (s : StoredNodeState g.row.S.Denot). IsRecovered s left c.in-Ok.found.1) c.self.view_is
    (reopened old left c.in-Ok-open.node c.in-Ok.found.0.items c.in-Ok.found.1
    (subst (λ (rs : List Record). Starts c.self.inside.config c.self.inside.me rs c.in-Ok-open.node) c.as_slice-found.ensures.value c.in-Ok-open.ensures)
    c.in-Ok.ensures.recalled c.in-Ok.ensures.certain c.replace.ensures.after c.recover.ensures.records c.recover.ensures.certain refl refl)
