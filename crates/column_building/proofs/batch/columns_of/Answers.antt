use Rattle.std.proofs.Common.{map, Vec, Global}
use Rattle.batch_columns.specs.FieldShapes.{field_shapes}
use Rattle.batch_cells.specs.declared.cell.Cell.{Cell as Plain}
use Rattle.batch_cells.specs.CellViews.{cell_of}
use Rattle.column_building.proofs.Making.{made_done}
use Rattle.column_building.proofs.batch.columns_of.Goals as goal

pub returns-clause-made : goal.returns-clause-made
returns-clause-made c =
    made_done (λ (cells : Vec Plain Global). map cell_of cells.items) c.args.fields.now c.args.columns.now c.loop-index.index
    (field_shapes c.args.fields.now) (map (λ (cells : Vec Plain Global). map cell_of cells.items) c.args.columns.now) c.loop-index.made.items
    c.loop-index-test.false c.requires c.loop-index.invariant.made
