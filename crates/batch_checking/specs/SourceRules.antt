-- The rules of a column, of what is read of it: Apache Arrow, "Arrow Columnar Format", "Physical memory layout".
-- `Rules` of `batch_types` has the rules themselves.
use Rattle.std.specs.Prelude.{◌≡◌, ◌⊎◌, ℕ, ◌+◌, ◌*◌, ◌<◌, ◌≤◌, ◌≤ℤ◌, ◌==◌, if◌then◌else◌}
use Rattle.std.specs.Prelude.{List, length}
use Rattle.bitmaps.specs.Bits.{bits_of, zeros}
use Rattle.batch_types.specs.Layouts.{Layout, null_layout, bits_layout, bytes_layout, binary_layout, utf8_layout}
use Rattle.batch_types.specs.Layouts.{list_layout, fixed_size_list_layout, struct_layout}
use Rattle.batch_types.specs.Placed.{offset_at, start_of}
use Rattle.batch_types.specs.Rules.{OffsetsRise}

-- how many values a bitmap says are null
abbrev pub nulls_counted : List ℕ → ℕ → ℕ
nulls_counted validity count = if length validity == 0 then 0 else zeros (bits_of validity 0 count)

-- no offset is below the one before
abbrev pub Rises : List ℕ → ℕ → Type 0
Rises offsets count = (j : ℕ) → j < count → offset_at 4 offsets j ≤ℤ offset_at 4 offsets (j + 1)

-- values begin and end at offsets that are there and do not fall
abbrev pub AreSpread : List ℕ → ℕ → Type 0
AreSpread offsets count =
    (count ≡ 0)
    ⊎ ((4 * (count + 1) ≤ length offsets)
    × ((j : ℕ) → j < count → start_of 4 offsets j ≤ start_of 4 offsets (j + 1)))

-- the value of this row has the element at this place
abbrev pub StandsIn : List ℕ → ℕ → ℕ → Type 0
StandsIn offsets row place = (start_of 4 offsets row ≤ place) × (place < start_of 4 offsets (row + 1))

-- and end within so many bytes
abbrev pub AreSpreadWithin : List ℕ → ℕ → ℕ → Type 0
AreSpreadWithin offsets count limit = AreSpread offsets count × ((count ≡ 0) ⊎ (start_of 4 offsets count ≤ limit))

-- texts begin and end within their bytes
abbrev pub TextsSpread : Layout → ℕ → List ℕ → List ℕ → Type 0
TextsSpread null_layout count offsets values = Unit {0}
TextsSpread bits_layout count offsets values = Unit {0}
TextsSpread (bytes_layout size) count offsets values = Unit {0}
TextsSpread (binary_layout offset) count offsets values = Unit {0}
TextsSpread (utf8_layout offset) count offsets values = AreSpreadWithin offsets count (length values)
TextsSpread (list_layout offset) count offsets values = Unit {0}
TextsSpread (fixed_size_list_layout size) count offsets values = Unit {0}
TextsSpread struct_layout count offsets values = Unit {0}

-- offsets begin no lower than at 0, do not fall, and end no higher than at the end of what they lead into: so many
-- bytes, or the values of the first column inside
abbrev pub OffsetsHold : Layout → ℕ → List ℕ → List ℕ → ℕ → Type 0
OffsetsHold null_layout count offsets values first = Unit {0}
OffsetsHold bits_layout count offsets values first = Unit {0}
OffsetsHold (bytes_layout size) count offsets values first = Unit {0}
OffsetsHold (binary_layout offset) count offsets values first = OffsetsRise offset offsets count (length values)
OffsetsHold (utf8_layout offset) count offsets values first = OffsetsRise offset offsets count (length values)
OffsetsHold (list_layout offset) count offsets values first = OffsetsRise offset offsets count first
OffsetsHold (fixed_size_list_layout size) count offsets values first = Unit {0}
OffsetsHold struct_layout count offsets values first = Unit {0}
