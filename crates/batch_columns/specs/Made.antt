-- The cells that values make, where each may be missing: a null stands for a value that is not there.
use Rattle.std.specs.Prelude.{◌==◌, ℕ, Bool, true, Option, Some, None, if◌then◌else◌, List, [], length}
use Rattle.std.specs.List.{sum_by}
use Rattle.std.specs.Borrow.{Bor}
use Rattle.bitmaps.specs.Bits.{zeros}
use Rattle.bitmaps.specs.Packing.{packed_bytes}
use Rattle.batch_types.specs.Cells.{Cell, null_cell, bit_cell, bytes_cell}
use Rattle.batch_types.specs.Canonical.{bytes_lengths}

abbrev pub bit_or_null : Option Bool → Cell
bit_or_null None = null_cell
bit_or_null (Some bit) = bit_cell bit

-- of bytes, or of a text, that are lent
abbrev pub bytes_or_null : Option (Bor (List ℕ)) → Cell
bytes_or_null None = null_cell
bytes_or_null (Some bytes) = bytes_cell bytes.now

-- how many bytes some cells have in all
abbrev pub bytes_in : List Cell → ℕ
bytes_in cells = sum_by (λ n. n) (bytes_lengths cells)

-- it has so many bytes, if it is there
abbrev pub has_size : ℕ → Option (Bor (List ℕ)) → Bool
has_size size None = true
has_size size (Some bytes) = length bytes.now == size

-- the validity that is written where these bits say which cells are there: none where all are
abbrev pub validity_bytes : List Bool → List ℕ
validity_bytes there = if zeros there == 0 then [] else packed_bytes there
