-- The nodes and buffers of a batch, column by column: Apache Arrow, "Arrow Columnar Format", "RecordBatch message".
-- Nodes and buffers follow the fields depth first, a parent before the fields inside it.
use Rattle.std.specs.Prelude.{◌≡◌, ℕ, ℤ, List, [], ◌∷◌, ◌++◌, length}
use Rattle.header_types.specs.Fields.{Tree, tree, Forest, no_more, more}
use Rattle.header_types.specs.Limits.{forest_sum}
use Rattle.batch_types.specs.Layouts.{Layout, layout_of, buffers_in_layout}

-- how many values a column has, and how many of them are null
abbrev pub Node : Type 0
Node = ℤ × ℤ

-- where in the body a buffer begins, and how many bytes it has
abbrev pub Range : Type 0
Range = ℤ × ℤ

-- a column: its layout, its node, its buffers, and the columns inside it
mutual
  pub data LaidColumn : Type 0 where
    laid : Layout → Node → List Range → LaidColumns → LaidColumn

  pub data LaidColumns : Type 0 where
    no_column : LaidColumns
    column_then : LaidColumn → LaidColumns → LaidColumns

-- ---- in order, depth first

abbrev mutual
  pub nodes_of : LaidColumn → List Node
  nodes_of (laid layout node buffers inner) = node ∷ nodes_in inner

  pub nodes_in : LaidColumns → List Node
  nodes_in no_column = []
  nodes_in (column_then column rest) = nodes_of column ++ nodes_in rest

abbrev mutual
  pub buffers_of : LaidColumn → List Range
  buffers_of (laid layout node buffers inner) = buffers ++ buffers_in inner

  pub buffers_in : LaidColumns → List Range
  buffers_in no_column = []
  buffers_in (column_then column rest) = buffers_of column ++ buffers_in rest

-- ---- columns of fields

-- the columns have the layouts of these fields, and as many buffers as these have
abbrev mutual
  pub IsColumnOf : Tree → LaidColumn → Type 0
  IsColumnOf (tree field entries inside) (laid layout node buffers inner) =
      (layout ≡ layout_of field.data_type) × (length buffers ≡ buffers_in_layout layout) × AreColumnsOf inside inner

  pub AreColumnsOf : Forest → LaidColumns → Type 0
  AreColumnsOf no_more no_column = Unit {0}
  AreColumnsOf no_more (column_then column rest) = ⊥
  AreColumnsOf (more t ts) no_column = ⊥
  AreColumnsOf (more t ts) (column_then column rest) = IsColumnOf t column × AreColumnsOf ts rest

-- how many nodes and buffers the columns of these fields have: "Buffer listing for each layout"
abbrev pub node_count : Forest → ℕ
node_count fields = forest_sum (λ field entries. 1) fields

abbrev pub buffer_count : Forest → ℕ
buffer_count fields = forest_sum (λ field entries. buffers_in_layout (layout_of field.data_type)) fields
