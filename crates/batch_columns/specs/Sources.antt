-- The columns that a header lists for some fields: Apache Arrow, "Arrow Columnar Format", "RecordBatch message". Its
-- nodes and buffers follow the fields depth first: those of a field stand before those of the fields inside it, and
-- these before those of the next field.
use Rattle.std.specs.Prelude.{ℕ, pos, List, take, drop, get_or}
use Rattle.header_types.specs.Fields.{Tree, tree, Forest, no_more, more}
use Rattle.header_types.specs.Limits.{tree_sum}
use Rattle.batch_types.specs.Layouts.{layout_of, buffers_in_layout}
use Rattle.batch_types.specs.Laid.{Node, Range, LaidColumn, laid, LaidColumns, no_column, column_then}

-- how many nodes and buffers the column of a field has, with those of the columns inside it
abbrev pub nodes_of_tree : Tree → ℕ
nodes_of_tree t = tree_sum (λ field entries. 1) t

abbrev pub buffers_of_tree : Tree → ℕ
buffers_of_tree t = tree_sum (λ field entries. buffers_in_layout (layout_of field.data_type)) t

abbrev mutual
  -- the column whose nodes and buffers stand first in these lists
  pub column_from : Tree → List Node → List Range → LaidColumn
  column_from (tree field entries inside) nodes ranges =
      laid (layout_of field.data_type) (get_or nodes 0 (pos 0, pos 0))
      (take (buffers_in_layout (layout_of field.data_type)) ranges)
      (columns_from inside (drop 1 nodes) (drop (buffers_in_layout (layout_of field.data_type)) ranges))

  pub columns_from : Forest → List Node → List Range → LaidColumns
  columns_from no_more nodes ranges = no_column
  columns_from (more t rest) nodes ranges =
      column_then (column_from t nodes ranges)
      (columns_from rest (drop (nodes_of_tree t) nodes) (drop (buffers_of_tree t) ranges))
