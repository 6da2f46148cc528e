use Rattle.batch_columns.proofs.Making.{spans_more, texts_more}
use Rattle.batch_columns.proofs.building.text_spans.Goals as goal

pub loop-cell-preserved : goal.loop-cell-preserved
loop-cell-preserved c =
    let more =
    spans_more c.args.cells.now c.loop-cell.cell-index c.loop-cell-test.true c.loop-cell.offsets.items
    c.loop-cell.bytes.items c.text_there.result.now c.append_variable.new.offsets.items c.append_variable.new.bytes.items
    c.loop-cell.invariant.offsets c.loop-cell.invariant.bytes c.text_there.ensures.bytes c.in_ok-append_variable.ensures.offsets
    c.in_ok-append_variable.ensures.bytes in
    record {
      offsets = more.0;
      bytes = more.1;
      utf8 = texts_more c.args.cells.now c.loop-cell.cell-index c.loop-cell-test.true c.loop-cell.invariant.utf8 c.text_there.ensures.utf8;
    }
