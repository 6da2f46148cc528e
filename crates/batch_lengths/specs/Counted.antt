-- What is counted of the cells of a column: Apache Arrow, "Arrow Columnar Format", "Validity bitmaps", "Variable-size
-- binary layout" and "Variable-size list layout".
use Rattle.std.specs.Prelude.{◌≡◌, ℕ, ◌==◌, Bool, not, if◌then◌else◌, List, map}
use Rattle.std.specs.List.{sum_by}
use Rattle.bitmaps.specs.Bits.{zeros}
use Rattle.batch_types.specs.Layouts.{Layout, null_layout, bits_layout, bytes_layout, binary_layout, utf8_layout}
use Rattle.batch_types.specs.Layouts.{list_layout, fixed_size_list_layout, struct_layout}
use Rattle.batch_types.specs.Placed.{length_of}
use Rattle.batch_columns.specs.Held.{layout_named}
use Rattle.batch_columns.specs.declared.encoded_column.EncodedColumn.{EncodedColumn}
use Rattle.batch_reading.specs.Spots.{Spot}
use Rattle.batch_reading.specs.Taken.{is_shown, seen}
use Rattle.batch_lengths.specs.declared.counted.Counted.{Counted}

-- whether one of the cells is null
abbrev pub has_null : List ℕ → List Spot → Bool
has_null validity spots = not (zeros (map (is_shown validity) spots) == 0)

-- how many bytes or elements the value at a spot has, where it is taken; none in layouts where all have as many
abbrev pub span_length : Layout → List ℕ → Spot → ℕ
span_length null_layout offsets spot = 0
span_length bits_layout offsets spot = 0
span_length (bytes_layout size) offsets spot = 0
span_length (binary_layout offset) offsets spot = if spot.1 then length_of 4 offsets spot.0 else 0
span_length (utf8_layout offset) offsets spot = if spot.1 then length_of 4 offsets spot.0 else 0
span_length (list_layout offset) offsets spot = if spot.1 then length_of 4 offsets spot.0 else 0
span_length (fixed_size_list_layout size) offsets spot = 0
span_length struct_layout offsets spot = 0

-- in all
abbrev pub span_total : Layout → List ℕ → List Spot → ℕ
span_total layout offsets taken = sum_by (span_length layout offsets) taken

-- this was counted of the cells of a column at these spots
pub record IsCounted (source : EncodedColumn) (spots : List Spot) (counted : Counted) : Type 0 where
  pub nulls : counted.has_null ≡ has_null source.validity.now spots
  pub lengths : counted.total
      ≡ span_total (layout_named source.layout) source.offsets.now (map (seen source.validity.now) spots)
