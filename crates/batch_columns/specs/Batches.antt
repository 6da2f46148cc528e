-- What a batch of columns holds, and of which schema it is: Apache Arrow, "Arrow Columnar Format", "Terminology" and
-- "RecordBatch message".
use Rattle.std.specs.Prelude.{◌≡◌, ◌≤◌, pos, ◌≤ℤ◌, length}
use Rattle.std.specs.List.{AllByRecursion}
use Rattle.header_types.specs.Fields.{SchemaTree}
use Rattle.batch_types.specs.Cells.{Rows}
use Rattle.batch_types.specs.Canonical.{canonical_parts}
use Rattle.batch_types.specs.LaysOut.{rows_limit, values_limit}
use Rattle.batch_types.specs.Shapes.{shapes_of}
use Rattle.batch_columns.specs.Few.{columns_cells}
use Rattle.batch_columns.specs.Held.{shapes_held}
use Rattle.batch_columns.specs.declared.batch.Batch.{Batch}

-- its rows
abbrev pub rows_of : Batch → Rows
rows_of batch = record { count = batch.rows; columns = columns_cells batch.columns.items }

-- a column for each field, of its shape and with a cell for each row, and no more rows and values than a batch may have
pub record IsBatchOf (schema : SchemaTree) (batch : Batch) : Type 0 where
  pub shapes : shapes_held batch.columns.items ≡ shapes_of schema.fields
  pub counts : AllByRecursion (λ column. length column.cells ≡ batch.rows) batch.columns.items
  pub rows_few : batch.rows ≤ rows_limit
  pub values_few : AllByRecursion (λ node. node.0 ≤ℤ pos values_limit) (canonical_parts schema (rows_of batch)).nodes
