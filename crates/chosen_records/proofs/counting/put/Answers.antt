use Rattle.std.proofs.Common.{None, Some}
use Rattle.chosen_records.proofs.Counted.{first_node, node_counted}
use Rattle.chosen_records.proofs.counting.put.Goals as goal

pub returns : goal.returns
returns c =
    let updates = c.in_ok-insert.ensures.updates in
    node_counted c.args.tallies.now c.insert.new.self c.args.node c.args.place c.args.value.now None (Some _) c.requires updates.1
    (first_node _ c.new.result c.args.node c.args.value.now c.in_ok-value.ensures c.new.ensures c.with-nodes.ensures)
    updates.2
