use Rattle.std.proofs.Common.{refl}
use Rattle.batch_columns.proofs.Making.{long_at}
use Rattle.batch_columns.proofs.building.are_long_texts.Goals as goal

pub returns-then-total-more : goal.returns-then-total-more
returns-then-total-more c = (
  λ yes. long_at c.args.cells.now c.loop-cell.cell-index c.loop-cell-test.true c.loop-cell.total
      c.text_there-more.result.now c.loop-cell.invariant.0 c.text_there-more.ensures.bytes c.if-total-more.true,
  λ long. refl,
)
