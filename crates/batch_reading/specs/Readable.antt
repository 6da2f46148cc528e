-- Columns that a header lists for some fields, of which some places are selected: Apache Arrow, "Arrow Columnar Format",
-- "RecordBatch message".
use Rattle.std.specs.Prelude.{◌≡◌, ℕ, ◌+◌, ◌<◌, ◌≤◌, pos, ◌≤ℤ◌, List, map, length, drop, get_or}
use Rattle.std.specs.List.{AllByRecursion}
use Rattle.header_types.specs.declared.schema.Field.{Field}
use Rattle.header_types.specs.declared.header.BatchHead.{BatchHead}
use Rattle.header_types.specs.Fields.{Forest}
use Rattle.header_types.specs.Profile.{IsWellFormedForest}
use Rattle.header_types.specs.Views.{tree_of, forest_of}
use Rattle.batch_types.specs.Laid.{LaidColumns, node_count, buffer_count}
use Rattle.batch_types.specs.LaysOut.{AreSound, values_limit}
use Rattle.batch_types.specs.Canonical.{parts_of}
use Rattle.batch_types.specs.Cells.{Cell}
use Rattle.batch_types.specs.Shapes.{Shape, shapes_of}
use Rattle.batch_columns.specs.Few.{columns_cells}
use Rattle.batch_columns.specs.Contents.{Contents}
use Rattle.batch_columns.specs.Held.{shapes_held}
use Rattle.batch_columns.specs.declared.place.Place.{Place}
use Rattle.batch_columns.specs.Sources.{columns_from}
use Rattle.batch_reading.specs.declared.selection.Selection.{Selection}
use Rattle.batch_reading.specs.Spots.{spots_of, IsSelection}
use Rattle.batch_reading.specs.Built.{columns_wanted, AreFit}

-- the fields of the program
abbrev pub forest_seen : List Field → Forest
forest_seen fields = forest_of (map tree_of fields)

-- their columns from a place of a header on
abbrev pub columns_there : Forest → BatchHead → Place → LaidColumns
columns_there fields head place =
    columns_from fields (drop place.node head.nodes.items) (drop place.buffer head.buffers.items)

-- The columns keep their rules, and the selected cells are cells of the fields.
pub record AreReadable (fields : Forest) (head : BatchHead) (place : Place) (body : List ℕ) (selection : Selection)
    : Type 0 where
  pub asked : ℕ
  pub places : List ℕ
  pub wanted_is : IsSelection asked selection
  pub sound : AreSound body (columns_there fields head place) asked places
  pub fit : AreFit body (columns_there fields head place) (shapes_of fields) (spots_of selection)
  pub formed : IsWellFormedForest fields
  pub nodes_there : place.node + node_count fields ≤ length head.nodes.items
  pub buffers_there : place.buffer + buffer_count fields ≤ length head.buffers.items
  pub counted : (k : ℕ) → k < length head.nodes.items → pos 0 ≤ℤ (get_or head.nodes.items k (pos 0, pos 0)).0
  pub few : (k : ℕ) → k < length head.nodes.items → (get_or head.nodes.items k (pos 0, pos 0)).0 ≤ℤ pos values_limit

-- a column of these cells has no more values than a node may have, nor has a column inside it
abbrev pub HasFewValues : Shape → List Cell → Type 0
HasFewValues s cells = AllByRecursion (λ node. node.0 ≤ℤ pos values_limit) (parts_of s cells).nodes

abbrev pub HaveFewValues : List Contents → Type 0
HaveFewValues columns = AllByRecursion (λ column. HasFewValues column.shape column.cells) columns

-- these are the columns of the selected cells
abbrev pub AreBuilt : Forest → BatchHead → Place → List ℕ → Selection → List Contents → Type 0
AreBuilt fields head place body selection columns =
    (shapes_held columns ≡ shapes_of fields)
    × (columns_cells columns
    ≡ columns_wanted body (columns_there fields head place) (shapes_of fields) (spots_of selection))
