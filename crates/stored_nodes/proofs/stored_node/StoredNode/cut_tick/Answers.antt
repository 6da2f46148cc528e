use Rattle.histories.specs.Due.{Tick}
use Rattle.stored_nodes.proofs.Applying.{cut_behind}
use Rattle.stored_nodes.proofs.stored_node.StoredNode.cut_tick.Goals as goal

pub returns : goal.returns
returns g c = λ before views placed up.
    cut_behind c.args.self.now c.cut.new.self before views (Tick c.args.left) c.cut.result placed up (c.cut.ensures views up)
