use Rattle.batch_columns.proofs.Making.{spans_more}
use Rattle.batch_columns.proofs.building.spans.Goals as goal

pub loop-cell-preserved : goal.loop-cell-preserved
loop-cell-preserved c =
    spans_more c.args.cells.now c.loop-cell.cell-index c.loop-cell-test.true c.loop-cell.offsets.items
    c.loop-cell.bytes.items c.bytes_there.result.now c.append_variable.new.offsets.items c.append_variable.new.bytes.items
    c.loop-cell.invariant.0 c.loop-cell.invariant.1 c.bytes_there.ensures c.in_ok-append_variable.ensures.offsets
    c.in_ok-append_variable.ensures.bytes
