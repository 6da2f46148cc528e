use Rattle.records_command.proofs.FolderLines.{text_more}
use Rattle.records_command.proofs.folder.nodes_text.Goals as goal

pub loop-node-preserved : goal.loop-node-preserved
loop-node-preserved c =
    text_more c.args.all.now c.loop-node.node c.index-all-node.result _ _ c.loop-node-test.true c.loop-node.invariant c.in_ok-push_line.ensures
    c.index-all-node.is
