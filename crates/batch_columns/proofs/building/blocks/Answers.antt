use Rattle.batch_columns.proofs.Making.{blocks_more}
use Rattle.batch_columns.proofs.building.blocks.Goals as goal

pub loop-cell-preserved : goal.loop-cell-preserved
loop-cell-preserved c =
    blocks_more c.args.size c.args.cells.now c.loop-cell.cell-index c.loop-cell-test.true c.loop-cell.bytes.items
    c.put_block.new.bytes.items c.loop-cell.invariant c.in_ok-put_block.ensures
