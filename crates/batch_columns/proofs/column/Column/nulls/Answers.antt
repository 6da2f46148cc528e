use Rattle.std.proofs.Common.{replicate}
use Rattle.std.proofs.lemmas.List.{length-replicate}
use Rattle.batch_types.specs.Cells.{null_cell}
use Rattle.batch_columns.proofs.Making.{nulls_kept_as}
use Rattle.batch_columns.proofs.column.Column.nulls.Goals as goal

pub from_parts-requires : goal.from_parts-requires
from_parts-requires c = (
  replicate c.args.count null_cell,
  length-replicate c.args.count null_cell,
  nulls_kept_as c.args.count c.new.result.items c.new-2.result.items c.new-3.result.items c.new-4.result.items
      c.new.ensures.items c.new-2.ensures.items c.new-3.ensures.items c.new-4.ensures.items,
)

pub returns-clause-cells : goal.returns-clause-cells
returns-clause-cells c =
    c.from_parts.ensures.cells (replicate c.args.count null_cell) (length-replicate c.args.count null_cell)
    (nulls_kept_as c.args.count c.new.result.items c.new-2.result.items c.new-3.result.items c.new-4.result.items
    c.new.ensures.items c.new-2.ensures.items c.new-3.ensures.items c.new-4.ensures.items)
