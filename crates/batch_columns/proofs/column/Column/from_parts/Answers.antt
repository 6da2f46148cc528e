use Rattle.batch_columns.specs.Held.{layout_named}
use Rattle.batch_columns.proofs.Holding.{kept_cells, kept_held}
use Rattle.batch_columns.proofs.column.Column.from_parts.Goals as goal

pub invariant_of-result : goal.invariant_of-result
invariant_of-result c =
    kept_held c.written_values_are_the_cells.ensures.cells (layout_named c.args.layout) c.requires.0 c.args.inside.items
    c.args.nulls c.args.validity.items c.args.offsets.items c.args.values.items c.requires.2 c.args.count c.requires.1

pub returns-clause-cells : goal.returns-clause-cells
returns-clause-cells c cells counted kept =
    kept_cells c.written_values_are_the_cells.ensures.cells (layout_named c.args.layout) cells c.args.inside.items
    c.args.nulls c.args.validity.items c.args.offsets.items c.args.values.items kept c.args.count counted
