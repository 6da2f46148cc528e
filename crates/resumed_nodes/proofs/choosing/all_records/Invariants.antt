use Rattle.std.proofs.Common.{◌≡◌, map, take}
use Rattle.resumed_nodes.specs.Starting.{records_at_nodes}
use Rattle.resumed_nodes.proofs.choosing.all_records.Given as goal

abbrev pub invariant-loop-node : goal.invariant-loop-node
invariant-loop-node g l = map (λ own. own.items) l.all.items ≡ records_at_nodes (take l.node-index l.nodes)
