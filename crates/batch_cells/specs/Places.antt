-- The cells of a column by their places: a tool of the proofs.
use Rattle.std.specs.Prelude.{◌≡◌, ℕ, ◌<◌, Bool, true, false, length, get_or}
use Rattle.batch_types.specs.Cells.{Cell, null_cell}
use Rattle.batch_types.specs.Canonical.{is_null}
use Rattle.batch_types.specs.Layouts.{Layout, null_layout, bits_layout, bytes_layout, binary_layout, utf8_layout}
use Rattle.batch_types.specs.Layouts.{list_layout, fixed_size_list_layout, struct_layout}
use Rattle.batch_columns.specs.Contents.{Contents}

-- the cell of a row, null behind the last
abbrev pub cell_in : Contents → ℕ → Cell
cell_in column row = get_or column.cells row null_cell

-- there is a cell of this row, and it is not null
pub record IsThere (column : Contents) (row : ℕ) : Type 0 where
  pub within : row < length column.cells
  pub valid : is_null (cell_in column row) ≡ false

-- no column stands inside one of this layout
abbrev pub is_flat : Layout → Bool
is_flat null_layout = true
is_flat bits_layout = true
is_flat (bytes_layout size) = true
is_flat (binary_layout offset) = true
is_flat (utf8_layout offset) = true
is_flat (list_layout offset) = false
is_flat (fixed_size_list_layout size) = false
is_flat struct_layout = false
