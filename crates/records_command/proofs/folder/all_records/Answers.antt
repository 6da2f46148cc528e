use Rattle.std.proofs.Common.{map, length, refl}
use Rattle.std.proofs.lemmas.Option.{slice_get_read}
use Rattle.records_command.proofs.FolderLines.{fault_of_all, meant_more}
use Rattle.records_command.proofs.folder.all_records.Goals as goal

pub returns-in-Err-clause-fault : goal.returns-in-Err-clause-fault
returns-in-Err-clause-fault c =
    let nodes = c.args.nodes.now in
    let node = c.loop-node.node in
    let files = c.index-nodes-node.result in
    fault_of_all nodes node files c.in-Err.fault (slice_get_read nodes (length nodes) node files refl c.loop-node-test.true c.index-nodes-node.is)
    c.in-Err.ensures.fault

pub loop-node-preserved : goal.loop-node-preserved
loop-node-preserved c =
    meant_more c.args.nodes.now c.loop-node.node c.index-nodes-node.result (map (λ own. own.items) c.loop-node.all.items)
    (map (λ own. own.items) c.push.new.all.items) c.in-Ok.own.items c.loop-node-test.true c.index-nodes-node.is c.loop-node.invariant
    c.in-Ok.ensures.meant c.in_ok-push-in-Ok.ensures.behind
