use Rattle.batch_columns.proofs.Comparing.{alike_equal}
use Rattle.batch_columns.proofs.equal.alike_are_equal.Goals as goal

pub returns : goal.returns
returns c =
    alike_equal c.written_values_are_the_cells.ensures.cells c.args.left.now c.args.right.now c.layout.ensures.fit c.layout.ensures.room
    c.layout-2.ensures.fit c.layout-2.ensures.room
