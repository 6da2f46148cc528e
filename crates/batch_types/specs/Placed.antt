-- Which cell stands at a place of a column: Apache Arrow, "Arrow Columnar Format", "Physical memory layout". Everything
-- here speaks of the bytes of whole buffers and of places in them, and asks of no buffer whether it is long enough.
use Rattle.std.specs.Prelude.{ℕ, ◌+◌, ◌-◌, ◌*◌, ◌==◌, ◌||◌, ℤ, nat_abs, Bool, false, if◌then◌else◌, List, [], map}
use Rattle.std.specs.Prelude.{length, take, drop, get_or}
use Rattle.std.specs.List.{range_with_len}
use Rattle.byteorder.specs.Endian.{little_number, twos_complement}
use Rattle.bitmaps.specs.Bits.{bit_of}
use Rattle.batch_types.specs.Cells.{Cell, null_cell, bit_cell, bytes_cell, list_cell, tuple_cell, Cells, no_cell}
use Rattle.batch_types.specs.Cells.{cell_then, cells_of}
use Rattle.batch_types.specs.Layouts.{Layout, null_layout, bits_layout, bytes_layout, binary_layout, utf8_layout}
use Rattle.batch_types.specs.Layouts.{list_layout, fixed_size_list_layout, struct_layout}
use Rattle.batch_types.specs.Laid.{Range, LaidColumn, laid, LaidColumns, no_column, column_then}

-- ---- buffers

-- so many bytes of a text, from this one on
abbrev pub bytes_from : List ℕ → ℕ → ℕ → List ℕ
bytes_from bytes start count = take count (drop start bytes)

-- the bytes of a buffer
abbrev pub bytes_at : List ℕ → Range → List ℕ
bytes_at body range = bytes_from body (nat_abs range.0) (nat_abs range.1)

-- those of buffer n of a column, none where there is no such buffer
abbrev pub buffer_at : List ℕ → List Range → ℕ → List ℕ
buffer_at body ranges n = get_or (map (bytes_at body) ranges) n []

-- ---- validity and offsets

-- "Validity bitmaps": every value is valid where there is no bitmap, and else those whose bit is set. "Null layout": no
-- value is.
abbrev pub is_valid : Layout → List ℕ → ℕ → Bool
is_valid null_layout validity j = false
is_valid bits_layout validity j = (length validity == 0) || bit_of validity j
is_valid (bytes_layout size) validity j = (length validity == 0) || bit_of validity j
is_valid (binary_layout offset) validity j = (length validity == 0) || bit_of validity j
is_valid (utf8_layout offset) validity j = (length validity == 0) || bit_of validity j
is_valid (list_layout offset) validity j = (length validity == 0) || bit_of validity j
is_valid (fixed_size_list_layout size) validity j = (length validity == 0) || bit_of validity j
is_valid struct_layout validity j = (length validity == 0) || bit_of validity j

-- "Variable-size binary layout" and "Byte order (endianness)": offset j, a signed number of so many bytes, the lowest
-- first
abbrev pub offset_at : ℕ → List ℕ → ℕ → ℤ
offset_at size offsets j = twos_complement size (little_number size (bytes_from offsets (size * j) size))

-- where value j begins, and how many bytes or elements it has
abbrev pub start_of : ℕ → List ℕ → ℕ → ℕ
start_of size offsets j = nat_abs (offset_at size offsets j)

abbrev pub length_of : ℕ → List ℕ → ℕ → ℕ
length_of size offsets j = start_of size offsets (j + 1) - start_of size offsets j

-- the bytes of value j
abbrev pub value_bytes : ℕ → List ℕ → List ℕ → ℕ → List ℕ
value_bytes size offsets bytes j = bytes_from bytes (start_of size offsets j) (length_of size offsets j)

-- ---- cells

-- The value at place j, where it is valid, by the bytes of the second and the third buffer: with elements at these
-- places, or with these fields there.
abbrev pub value_at : Layout → List ℕ → List ℕ → (List ℕ → Cells) → (ℕ → Cells) → ℕ → Cell
value_at null_layout second third elements fields j = null_cell
value_at bits_layout second third elements fields j = bit_cell (bit_of second j)
value_at (bytes_layout size) second third elements fields j = bytes_cell (bytes_from second (size * j) size)
value_at (binary_layout offset) second third elements fields j = bytes_cell (value_bytes offset second third j)
value_at (utf8_layout offset) second third elements fields j = bytes_cell (value_bytes offset second third j)
value_at (list_layout offset) second third elements fields j =
    list_cell (elements (range_with_len (start_of offset second j) (length_of offset second j)))
value_at (fixed_size_list_layout size) second third elements fields j =
    list_cell (elements (range_with_len (size * j) size))
value_at struct_layout second third elements fields j = tuple_cell (fields j)

abbrev mutual
  -- the cell at place j of a column
  pub cell_at : List ℕ → LaidColumn → ℕ → Cell
  cell_at body (laid layout node ranges inner) j =
      if is_valid layout (buffer_at body ranges 0) j
      then value_at layout (buffer_at body ranges 1) (buffer_at body ranges 2)
      (cells_inside body inner) (fields_at body inner) j
      else null_cell

  -- the cells at these places of the first of the columns, the only one inside a list
  pub cells_inside : List ℕ → LaidColumns → List ℕ → Cells
  cells_inside body no_column places = no_cell
  cells_inside body (column_then column rest) places = cells_of (map (cell_at body column) places)

  -- the cell at place j of each of the columns
  pub fields_at : List ℕ → LaidColumns → ℕ → Cells
  fields_at body no_column j = no_cell
  fields_at body (column_then column rest) j = cell_then (cell_at body column j) (fields_at body rest j)
