use Rattle.std.proofs.Common.{refl, sym, ap, subst, map, List, Vec, Global}
use Rattle.batch_types.specs.Cells.{Cell, Rows}
use Rattle.batch_types.specs.Canonical.{columns_parts}
use Rattle.batch_columns.specs.FieldShapes.{field_shapes}
use Rattle.batch_cells.specs.declared.cell.Cell.{Cell as Plain}
use Rattle.batch_cells.specs.CellViews.{cell_of}
use Rattle.column_building.specs.Built.{AreFewNodes}
use Rattle.column_building.specs.Rows.{AreMade}
use Rattle.column_building.proofs.Making.{made_shapes, made_cells, made_few, made_counts}
use Rattle.column_building.proofs.batch.batch_of.Goals as goal

pub returns-in-Ok-clause-of_schema : goal.returns-in-Ok-clause-of_schema
returns-in-Ok-clause-of_schema c =
    let shapes = field_shapes c.args.schema.now.fields.items in
    let columns = map (λ (cells : Vec Plain Global). map cell_of cells.items) c.args.columns.now in
    let are = subst (λ l. AreMade (field_shapes l) columns c.in-Ok.columns.items) c.as_slice-2.ensures.value c.in-Ok.ensures.made in
    record {
      shapes = made_shapes shapes columns c.in-Ok.columns.items are;
      counts =
          made_counts (λ (cells : Vec Plain Global). cells.items) c.args.rows shapes c.args.columns.now c.in-Ok.columns.items are
          (c.if-not-have_rows.ensures.0 refl);
      rows_few = c.if-rows-gt-ROWS_LIMIT.false;
      values_few =
          subst (λ cs. AreFewNodes (columns_parts shapes cs).nodes) (sym (made_cells shapes columns c.in-Ok.columns.items are))
          (made_few shapes columns c.in-Ok.columns.items are);
    }

pub returns-in-Ok-clause-rows : goal.returns-in-Ok-clause-rows
returns-in-Ok-clause-rows c =
    let shapes = field_shapes c.args.schema.now.fields.items in
    let columns = map (λ (cells : Vec Plain Global). map cell_of cells.items) c.args.columns.now in
    let are = subst (λ l. AreMade (field_shapes l) columns c.in-Ok.columns.items) c.as_slice-2.ensures.value c.in-Ok.ensures.made in
    let with_columns : List (List Cell) → Rows = λ cs. record { count = c.args.rows; columns = cs } in
    ap with_columns (made_cells shapes columns c.in-Ok.columns.items are)
