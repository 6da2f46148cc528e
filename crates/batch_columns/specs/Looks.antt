-- What is seen of one cell.
use Rattle.std.specs.Prelude.{ℕ, ◌==◌, Bool, true, false, List, Option, Some, None}
use Rattle.batch_types.specs.Layouts.{Layout, null_layout, bits_layout, bytes_layout, binary_layout, utf8_layout}
use Rattle.batch_types.specs.Layouts.{list_layout, fixed_size_list_layout, struct_layout}
use Rattle.batch_types.specs.Cells.{Cell, null_cell, bit_cell, bytes_cell, list_cell, tuple_cell}
use Rattle.batch_types.specs.Canonical.{is_null}

-- whether a column of this layout has cells that are not null
abbrev pub has_values : Layout → Bool
has_values null_layout = false
has_values bits_layout = true
has_values (bytes_layout size) = true
has_values (binary_layout offset) = true
has_values (utf8_layout offset) = true
has_values (list_layout offset) = true
has_values (fixed_size_list_layout size) = true
has_values struct_layout = true

-- whether they have a bit each
abbrev pub has_bits : Layout → Bool
has_bits null_layout = false
has_bits bits_layout = true
has_bits (bytes_layout size) = false
has_bits (binary_layout offset) = false
has_bits (utf8_layout offset) = false
has_bits (list_layout offset) = false
has_bits (fixed_size_list_layout size) = false
has_bits struct_layout = false

-- whether they have bytes of any number, by offsets of four bytes
abbrev pub has_spread : Layout → Bool
has_spread null_layout = false
has_spread bits_layout = false
has_spread (bytes_layout size) = false
has_spread (binary_layout offset) = offset == 4
has_spread (utf8_layout offset) = offset == 4
has_spread (list_layout offset) = false
has_spread (fixed_size_list_layout size) = false
has_spread struct_layout = false

-- whether it is null, where there is a cell
abbrev pub null_seen : Option Cell → Option Bool
null_seen None = None
null_seen (Some cell) = Some (is_null cell)

-- its bit, where there is a cell with one
abbrev pub bit_seen : Option Cell → Option Bool
bit_seen None = None
bit_seen (Some null_cell) = None
bit_seen (Some (bit_cell bit)) = Some bit
bit_seen (Some (bytes_cell bytes)) = None
bit_seen (Some (list_cell cells)) = None
bit_seen (Some (tuple_cell cells)) = None

-- its bytes, where there is a cell with some
abbrev pub bytes_seen : Option Cell → Option (List ℕ)
bytes_seen None = None
bytes_seen (Some null_cell) = None
bytes_seen (Some (bit_cell bit)) = None
bytes_seen (Some (bytes_cell bytes)) = Some bytes
bytes_seen (Some (list_cell cells)) = None
bytes_seen (Some (tuple_cell cells)) = None
