-- The one body that is written of a batch, and its header. The columnar format leaves free what stands under a null,
-- where a buffer begins and how long it is; here each has one answer. Apache Arrow, "Arrow Columnar Format", "Physical
-- memory layout", "Buffer alignment and padding" and "RecordBatch message".
use Rattle.std.specs.Prelude.{ℕ, zero, suc, ◌+◌, ◌-◌, ◌*◌, ◌/◌, ◌==◌, pos, Bool, true, false, not, if◌then◌else◌}
use Rattle.std.specs.Prelude.{List, [], ◌∷◌, ◌++◌, map, length, take, replicate}
use Rattle.std.specs.List.{range_with_len, flat_map, count_by, sum_by}
use Rattle.byteorder.specs.Endian.{little_bytes}
use Rattle.bitmaps.specs.Packing.{packed_bytes}
use Rattle.header_types.specs.Fields.{SchemaTree}
use Rattle.header_types.specs.Header.{Head}
use Rattle.batch_types.specs.Cells.{Cell, null_cell, bit_cell, bytes_cell, list_cell, tuple_cell, Cells, no_cell}
use Rattle.batch_types.specs.Cells.{cell_then, cells_of, Rows}
use Rattle.batch_types.specs.Layouts.{Layout, null_layout, bits_layout, bytes_layout, binary_layout, utf8_layout}
use Rattle.batch_types.specs.Layouts.{list_layout, fixed_size_list_layout, struct_layout}
use Rattle.batch_types.specs.Shapes.{Shape, shape, Shapes, no_shape, shape_then, shapes_of}
use Rattle.batch_types.specs.Laid.{Node, Range}

-- ---- blank cells, which stand in the columns inside a null

-- of a layout, with a blank cell of the first column inside and one of each
abbrev pub blank_cell : Layout → Cell → Cells → Cell
blank_cell null_layout first fields = null_cell
blank_cell bits_layout first fields = bit_cell false
blank_cell (bytes_layout size) first fields = bytes_cell (replicate size 0)
blank_cell (binary_layout offset) first fields = bytes_cell []
blank_cell (utf8_layout offset) first fields = bytes_cell []
blank_cell (list_layout offset) first fields = list_cell no_cell
blank_cell (fixed_size_list_layout size) first fields = list_cell (cells_of (replicate size first))
blank_cell struct_layout first fields = tuple_cell fields

abbrev mutual
  pub blank_of : Shape → Cell
  blank_of (shape layout inside) = blank_cell layout (first_blank inside) (blanks_of inside)

  pub first_blank : Shapes → Cell
  first_blank no_shape = null_cell
  first_blank (shape_then s rest) = blank_of s

  pub blanks_of : Shapes → Cells
  blanks_of no_shape = no_cell
  blanks_of (shape_then s rest) = cell_then (blank_of s) (blanks_of rest)

-- ---- what a cell has

abbrev pub is_null : Cell → Bool
is_null null_cell = true
is_null (bit_cell bit) = false
is_null (bytes_cell bytes) = false
is_null (list_cell cells) = false
is_null (tuple_cell cells) = false

-- its bit, not set under a null
abbrev pub bit_in : Cell → Bool
bit_in null_cell = false
bit_in (bit_cell bit) = bit
bit_in (bytes_cell bytes) = false
bit_in (list_cell cells) = false
bit_in (tuple_cell cells) = false

-- its bytes, or these under a null
abbrev pub bytes_or : List ℕ → Cell → List ℕ
bytes_or blank null_cell = blank
bytes_or blank (bit_cell bit) = blank
bytes_or blank (bytes_cell bytes) = bytes
bytes_or blank (list_cell cells) = blank
bytes_or blank (tuple_cell cells) = blank

abbrev pub cells_in : Cells → List Cell
cells_in no_cell = []
cells_in (cell_then cell rest) = cell ∷ cells_in rest

-- its elements, or these under a null
abbrev pub elements_or : List Cell → Cell → List Cell
elements_or blank null_cell = blank
elements_or blank (bit_cell bit) = blank
elements_or blank (bytes_cell bytes) = blank
elements_or blank (list_cell cells) = cells_in cells
elements_or blank (tuple_cell cells) = blank

-- one of its fields, or this under a null
abbrev pub nth_or : Cell → Cells → ℕ → Cell
nth_or blank no_cell k = blank
nth_or blank (cell_then cell rest) zero = cell
nth_or blank (cell_then cell rest) (suc k) = nth_or blank rest k

abbrev pub field_or : Cell → ℕ → Cell → Cell
field_or blank k null_cell = blank
field_or blank k (bit_cell bit) = blank
field_or blank k (bytes_cell bytes) = blank
field_or blank k (list_cell cells) = blank
field_or blank k (tuple_cell cells) = nth_or blank cells k

-- ---- buffers

abbrev pub nulls_of : List Cell → ℕ
nulls_of cells = count_by is_null cells

-- no bitmap where nothing is null
abbrev pub validity_of : List Cell → List ℕ
validity_of cells = if nulls_of cells == 0 then [] else packed_bytes (map (λ cell. not (is_null cell)) cells)

-- offsets from 0 on, one more than lengths, each of so many bytes
abbrev pub offsets_of : ℕ → List ℕ → List ℕ
offsets_of size lengths =
    flat_map (λ j. little_bytes size (sum_by (λ n. n) (take j lengths))) (range_with_len 0 (length lengths + 1))

abbrev pub bytes_lengths : List Cell → List ℕ
bytes_lengths cells = map (λ cell. length (bytes_or [] cell)) cells

abbrev pub elements_lengths : List Cell → List ℕ
elements_lengths cells = map (λ cell. length (elements_or [] cell)) cells

-- the buffers of a column, those of the columns inside it aside
abbrev pub own_buffers : Layout → List Cell → List (List ℕ)
own_buffers null_layout cells = []
own_buffers bits_layout cells = validity_of cells ∷ packed_bytes (map bit_in cells) ∷ []
own_buffers (bytes_layout size) cells = validity_of cells ∷ flat_map (bytes_or (replicate size 0)) cells ∷ []
own_buffers (binary_layout offset) cells =
    validity_of cells ∷ offsets_of offset (bytes_lengths cells) ∷ flat_map (bytes_or []) cells ∷ []
own_buffers (utf8_layout offset) cells =
    validity_of cells ∷ offsets_of offset (bytes_lengths cells) ∷ flat_map (bytes_or []) cells ∷ []
own_buffers (list_layout offset) cells = validity_of cells ∷ offsets_of offset (elements_lengths cells) ∷ []
own_buffers (fixed_size_list_layout size) cells = validity_of cells ∷ []
own_buffers struct_layout cells = validity_of cells ∷ []

-- the nodes and the buffers of columns, depth first
pub record Parts : Type 0 where
  pub nodes : List Node
  pub buffers : List (List ℕ)

abbrev pub no_parts : Parts
no_parts = record { nodes = []; buffers = [] }

abbrev pub both_parts : Parts → Parts → Parts
both_parts x y = record { nodes = x.nodes ++ y.nodes; buffers = x.buffers ++ y.buffers }

abbrev pub own_parts : Layout → List Cell → Parts
own_parts layout cells = record {
  nodes = (pos (length cells), pos (nulls_of cells)) ∷ [];
  buffers = own_buffers layout cells;
}

-- those of the columns inside a column of this layout: of elements, with so many blank ones for each null, or of fields
abbrev pub parts_inside : Layout → (ℕ → Parts) → Parts → Parts
parts_inside null_layout elements fields = no_parts
parts_inside bits_layout elements fields = no_parts
parts_inside (bytes_layout size) elements fields = no_parts
parts_inside (binary_layout offset) elements fields = no_parts
parts_inside (utf8_layout offset) elements fields = no_parts
parts_inside (list_layout offset) elements fields = elements 0
parts_inside (fixed_size_list_layout size) elements fields = elements size
parts_inside struct_layout elements fields = fields

abbrev mutual
  -- the parts of a column of these cells
  pub parts_of : Shape → List Cell → Parts
  parts_of (shape layout inside) cells =
      both_parts (own_parts layout cells)
      (parts_inside layout (elements_parts inside cells) (fields_parts inside 0 cells))

  -- of the elements of these cells, so many blank ones for each null
  pub elements_parts : Shapes → List Cell → ℕ → Parts
  elements_parts no_shape cells blanks = no_parts
  elements_parts (shape_then s rest) cells blanks = parts_of s (flat_map (elements_or (replicate blanks (blank_of s))) cells)

  -- of the fields of these cells from this one on
  pub fields_parts : Shapes → ℕ → List Cell → Parts
  fields_parts no_shape k cells = no_parts
  fields_parts (shape_then s rest) k cells =
      both_parts (parts_of s (map (field_or (blank_of s) k) cells)) (fields_parts rest (suc k) cells)

-- the parts of the columns of a batch
abbrev pub columns_parts : Shapes → List (List Cell) → Parts
columns_parts no_shape columns = no_parts
columns_parts (shape_then s rest) [] = no_parts
columns_parts (shape_then s rest) (cells ∷ columns) = both_parts (parts_of s cells) (columns_parts rest columns)

-- ---- the body

-- the next multiple of eight
abbrev pub padded : ℕ → ℕ
padded n = (n + 7) / 8 * 8

-- the buffers one behind the other, each from a multiple of eight on, with zero bytes between them and at the end
abbrev pub body_with : List (List ℕ) → List ℕ
body_with buffers = flat_map (λ buffer. buffer ++ replicate (padded (length buffer) - length buffer) 0) buffers

-- where they stand, from this place on
abbrev pub ranges_from : ℕ → List (List ℕ) → List Range
ranges_from place [] = []
ranges_from place (buffer ∷ rest) =
    (pos place, pos (length buffer)) ∷ ranges_from (place + padded (length buffer)) rest

abbrev pub canonical_parts : SchemaTree → Rows → Parts
canonical_parts schema rows = columns_parts (shapes_of schema.fields) rows.columns

abbrev pub canonical_body : SchemaTree → Rows → List ℕ
canonical_body schema rows = body_with (canonical_parts schema rows).buffers

abbrev pub canonical_head : SchemaTree → Rows → Head
canonical_head schema rows = record {
  length = pos rows.count;
  nodes = (canonical_parts schema rows).nodes;
  buffers = ranges_from 0 (canonical_parts schema rows).buffers;
  compressed = false;
  body_length = pos (length (canonical_body schema rows));
}
