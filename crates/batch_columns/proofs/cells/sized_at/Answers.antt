use Rattle.std.proofs.Common.{◌∙◌}
use Rattle.batch_columns.proofs.Looking.{sized_block}
use Rattle.batch_columns.proofs.cells.sized_at.Goals as goal

pub block-requires : goal.block-requires
block-requires c =
    (sized_block c.args.size c.written_values_are_the_cells.ensures.sized c.args.column.now.shape c.args.column.now.cells c.values.result.now c.args.row
    c.requires.sized c.requires.within c.values.ensures.fit c.values.ensures.buffer).0

pub returns : goal.returns
returns c =
    c.block.ensures
    ∙ (sized_block c.args.size c.written_values_are_the_cells.ensures.sized c.args.column.now.shape c.args.column.now.cells c.values.result.now c.args.row
    c.requires.sized c.requires.within c.values.ensures.fit c.values.ensures.buffer).1
