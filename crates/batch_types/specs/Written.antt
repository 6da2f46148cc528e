-- Which rows a batch has room for, and which cell is read of a column's own buffers as they are written, where the
-- columns inside it are read as the cells that are written there: Apache Arrow, "Arrow Columnar Format", "Physical
-- memory layout".
use Rattle.std.specs.Prelude.{ℕ, suc, ◌-◌, ◌*◌, ◌^◌, ◌<◌, ◌≤◌, pos, ◌≤ℤ◌, if◌then◌else◌, List, [], ◌∷◌, map}
use Rattle.std.specs.Prelude.{replicate, get_or}
use Rattle.std.specs.List.{AllByRecursion, flat_map, sum_by}
use Rattle.header_types.specs.Fields.{SchemaTree}
use Rattle.batch_types.specs.Cells.{Cell, null_cell, Cells, no_cell, cell_then, cells_of, Rows}
use Rattle.batch_types.specs.Layouts.{Layout, null_layout, bits_layout, bytes_layout, binary_layout, utf8_layout}
use Rattle.batch_types.specs.Layouts.{list_layout, fixed_size_list_layout, struct_layout}
use Rattle.batch_types.specs.Shapes.{Shape, shape, Shapes, no_shape, shape_then, shapes_of}
use Rattle.batch_types.specs.Placed.{is_valid, value_at}
use Rattle.batch_types.specs.LaysOut.{rows_limit, values_limit}
use Rattle.batch_types.specs.Typed.{AreRowsOf}
use Rattle.batch_types.specs.Canonical.{blank_of, elements_or, field_or, bytes_lengths, elements_lengths, own_buffers}
use Rattle.batch_types.specs.Canonical.{canonical_parts}

-- ---- room

-- what the cells of a column have in all is a signed number of as many bytes as its offsets have
abbrev pub HasRoom : Layout → List Cell → Type 0
HasRoom null_layout cells = Unit {0}
HasRoom bits_layout cells = Unit {0}
HasRoom (bytes_layout size) cells = Unit {0}
HasRoom (binary_layout offset) cells = sum_by (λ n. n) (bytes_lengths cells) < 2 ^ (8 * offset - 1)
HasRoom (utf8_layout offset) cells = sum_by (λ n. n) (bytes_lengths cells) < 2 ^ (8 * offset - 1)
HasRoom (list_layout offset) cells = sum_by (λ n. n) (elements_lengths cells) < 2 ^ (8 * offset - 1)
HasRoom (fixed_size_list_layout size) cells = Unit {0}
HasRoom struct_layout cells = Unit {0}

-- what the columns inside a column of this layout have: elements, so many blank ones for each null, or fields
abbrev pub HasInside : Layout → (ℕ → Type 0) → Type 0 → Type 0
HasInside null_layout Elements Fields = Unit {0}
HasInside bits_layout Elements Fields = Unit {0}
HasInside (bytes_layout size) Elements Fields = Unit {0}
HasInside (binary_layout offset) Elements Fields = Unit {0}
HasInside (utf8_layout offset) Elements Fields = Unit {0}
HasInside (list_layout offset) Elements Fields = Elements 0
HasInside (fixed_size_list_layout size) Elements Fields = Elements size
HasInside struct_layout Elements Fields = Fields

abbrev mutual
  -- there is room in a column of these cells and in all columns inside it
  pub AreRooms : Shape → List Cell → Type 0
  AreRooms (shape layout inside) cells =
      HasRoom layout cells × HasInside layout (AreElementRooms inside cells) (AreFieldRooms inside 0 cells)

  -- in a column of the elements of these cells, so many blank ones for each null
  pub AreElementRooms : Shapes → List Cell → ℕ → Type 0
  AreElementRooms no_shape cells blanks = Unit {0}
  AreElementRooms (shape_then s rest) cells blanks =
      AreRooms s (flat_map (elements_or (replicate blanks (blank_of s))) cells)

  -- in columns of the fields of these cells from this one on
  pub AreFieldRooms : Shapes → ℕ → List Cell → Type 0
  AreFieldRooms no_shape k cells = Unit {0}
  AreFieldRooms (shape_then s rest) k cells =
      AreRooms s (map (field_or (blank_of s) k) cells) × AreFieldRooms rest (suc k) cells

-- in the columns of a batch
abbrev pub HaveRooms : Shapes → List (List Cell) → Type 0
HaveRooms no_shape columns = Unit {0}
HaveRooms (shape_then s rest) [] = Unit {0}
HaveRooms (shape_then s rest) (cells ∷ columns) = AreRooms s cells × HaveRooms rest columns

-- Rows of the schema that a batch has room for: no more rows and no more values in a node than it may have, and no more
-- bytes or elements in a column than its offsets can say.
pub record CanBeWritten (schema : SchemaTree) (rows : Rows) : Type 0 where
  pub of_schema : AreRowsOf schema rows
  pub few : rows.count ≤ rows_limit
  pub few_values : AllByRecursion (λ node. node.0 ≤ℤ pos values_limit) (canonical_parts schema rows).nodes
  pub room : HaveRooms (shapes_of schema.fields) rows.columns

-- ---- one column

-- how many blank elements stand under a null
abbrev pub blanks_under : Layout → ℕ
blanks_under null_layout = 0
blanks_under bits_layout = 0
blanks_under (bytes_layout size) = 0
blanks_under (binary_layout offset) = 0
blanks_under (utf8_layout offset) = 0
blanks_under (list_layout offset) = 0
blanks_under (fixed_size_list_layout size) = size
blanks_under struct_layout = 0

-- the cells at these places of the elements of these cells, so many blank ones for each null
abbrev pub written_elements : Shapes → List Cell → ℕ → List ℕ → Cells
written_elements no_shape cells blanks places = no_cell
written_elements (shape_then s rest) cells blanks places =
    cells_of (map (λ k. get_or (flat_map (elements_or (replicate blanks (blank_of s))) cells) k null_cell) places)

-- the cell at place j of each field of these cells, from this one on
abbrev pub written_fields : Shapes → ℕ → List Cell → ℕ → Cells
written_fields no_shape k cells j = no_cell
written_fields (shape_then s rest) k cells j =
    cell_then (get_or (map (field_or (blank_of s) k) cells) j null_cell) (written_fields rest (suc k) cells j)

-- the cell at place j of a column of these cells
abbrev pub written_cell : Layout → Shapes → List Cell → ℕ → Cell
written_cell layout inside cells j =
    if is_valid layout (get_or (own_buffers layout cells) 0 []) j
    then value_at layout (get_or (own_buffers layout cells) 1 []) (get_or (own_buffers layout cells) 2 [])
    (written_elements inside cells (blanks_under layout)) (written_fields inside 0 cells) j
    else null_cell
