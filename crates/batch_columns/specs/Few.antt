-- How many values columns have: Apache Arrow, "Arrow Columnar Format", "RecordBatch message" (`FieldNode`).
use Rattle.std.specs.Prelude.{pos, ◌≤ℤ◌, List, map}
use Rattle.std.specs.List.{AllByRecursion}
use Rattle.batch_types.specs.Cells.{Cell}
use Rattle.batch_types.specs.Canonical.{columns_parts}
use Rattle.batch_types.specs.Laid.{Node}
use Rattle.batch_types.specs.LaysOut.{values_limit}
use Rattle.batch_columns.specs.Contents.{Contents}
use Rattle.batch_columns.specs.Held.{shapes_held}

-- the cells of each column
abbrev pub columns_cells : List Contents → List (List Cell)
columns_cells columns = map (λ column. column.cells) columns

-- the nodes that are written of these columns, depth first
abbrev pub nodes_held : List Contents → List Node
nodes_held columns = (columns_parts (shapes_held columns) (columns_cells columns)).nodes

-- none of them has more values than a node may have
abbrev pub AreFew : List Contents → Type 0
AreFew columns = AllByRecursion (λ node. node.0 ≤ℤ pos values_limit) (nodes_held columns)
