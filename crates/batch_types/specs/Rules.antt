-- The rules that a column keeps where it is laid out in a body: Apache Arrow, "Arrow Columnar Format", "Physical memory
-- layout" and "RecordBatch message". Where a buffer begins is not asked, nor whether two of them overlap, nor whether a
-- field that has nulls says that it may: more is read than is written.
use Rattle.std.specs.Prelude.{◌≡◌, ◌⊎◌, ℕ, ◌+◌, ◌*◌, ◌/◌, ◌<◌, ◌≤◌, ℤ, pos, ◌≤ℤ◌, ◌+ℤ◌, nat_abs, not, List, []}
use Rattle.std.specs.Prelude.{◌∷◌, length, get_or}
use Rattle.std.specs.List.{range_with_len, filter, flat_map, count_by}
use Rattle.std.specs.Str.{IsUtf8}
use Rattle.batch_types.specs.Layouts.{Layout, null_layout, bits_layout, bytes_layout, binary_layout, utf8_layout}
use Rattle.batch_types.specs.Layouts.{list_layout, fixed_size_list_layout, struct_layout}
use Rattle.batch_types.specs.Laid.{Node, Range, laid, LaidColumns, no_column, column_then}
use Rattle.batch_types.specs.Placed.{buffer_at, is_valid, offset_at, start_of, length_of, value_bytes}

-- ---- buffers

-- the range lies in so many bytes
pub record IsInside (bytes : ℕ) (range : Range) : Type 0 where
  pub begins : pos 0 ≤ℤ range.0
  pub counted : pos 0 ≤ℤ range.1
  pub ends : (range.0 +ℤ range.1) ≤ℤ pos bytes

-- how many bytes so many bits have
abbrev pub bytes_for : ℕ → ℕ
bytes_for bits = (bits + 7) / 8

-- "Validity bitmaps": a bitmap may be left out where nothing is null, and has then no bytes (Message.fbs, `FieldNode`)
abbrev pub IsValidityLong : ℕ → ℤ → ℕ → Type 0
IsValidityLong count nulls bytes = ((nulls ≡ pos 0) × (bytes ≡ 0)) ⊎ (bytes_for count ≤ bytes)

-- "Variable-size binary layout" and "Variable-size list layout": one offset more than values. Where there is no value,
-- there may also be none, as some writers have it.
abbrev pub AreOffsetsLong : ℕ → ℕ → ℕ → Type 0
AreOffsetsLong size count bytes = ((count ≡ 0) × (bytes ≡ 0)) ⊎ (size * (count + 1) ≤ bytes)

-- the buffers of so many values, so many of them null, are long enough: validity, and what the layout has beside it
abbrev pub AreLong : Layout → ℕ → ℤ → ℕ → ℕ → Type 0
AreLong null_layout count nulls first second = Unit {0}
AreLong bits_layout count nulls first second = IsValidityLong count nulls first × (bytes_for count ≤ second)
AreLong (bytes_layout size) count nulls first second = IsValidityLong count nulls first × (size * count ≤ second)
AreLong (binary_layout offset) count nulls first second =
    IsValidityLong count nulls first × AreOffsetsLong offset count second
AreLong (utf8_layout offset) count nulls first second =
    IsValidityLong count nulls first × AreOffsetsLong offset count second
AreLong (list_layout offset) count nulls first second =
    IsValidityLong count nulls first × AreOffsetsLong offset count second
AreLong (fixed_size_list_layout size) count nulls first second = IsValidityLong count nulls first
AreLong struct_layout count nulls first second = IsValidityLong count nulls first

-- all buffers lie in the body and are long enough
pub record HasBuffers (body : List ℕ) (layout : Layout) (node : Node) (ranges : List Range) : Type 0 where
  pub within : (n : ℕ) → n < length ranges → IsInside (length body) (get_or ranges n (pos 0, pos 0))
  pub long_enough : AreLong layout (nat_abs node.0) node.1 (length (buffer_at body ranges 0)) (length (buffer_at body ranges 1))

-- ---- nulls

-- "Validity bitmaps", "Null count": so many of the values are null. Of a column of the type Null it is not looked at.
abbrev pub nulls_in : Layout → List ℕ → ℕ → ℕ
nulls_in layout validity count = count_by (λ j. not (is_valid layout validity j)) (range_with_len 0 count)

abbrev pub HasNullCount : Layout → List ℕ → Node → Type 0
HasNullCount null_layout validity node = Unit {0}
HasNullCount bits_layout validity node = node.1 ≡ pos (nulls_in bits_layout validity (nat_abs node.0))
HasNullCount (bytes_layout size) validity node = node.1 ≡ pos (nulls_in (bytes_layout size) validity (nat_abs node.0))
HasNullCount (binary_layout offset) validity node =
    node.1 ≡ pos (nulls_in (binary_layout offset) validity (nat_abs node.0))
HasNullCount (utf8_layout offset) validity node = node.1 ≡ pos (nulls_in (utf8_layout offset) validity (nat_abs node.0))
HasNullCount (list_layout offset) validity node = node.1 ≡ pos (nulls_in (list_layout offset) validity (nat_abs node.0))
HasNullCount (fixed_size_list_layout size) validity node =
    node.1 ≡ pos (nulls_in (fixed_size_list_layout size) validity (nat_abs node.0))
HasNullCount struct_layout validity node = node.1 ≡ pos (nulls_in struct_layout validity (nat_abs node.0))

-- ---- offsets

-- none is below zero or below the one before, and the last is not above the limit
pub record DoRise (size : ℕ) (offsets : List ℕ) (count limit : ℕ) : Type 0 where
  pub begins : pos 0 ≤ℤ offset_at size offsets 0
  pub rises : (j : ℕ) → j < count → offset_at size offsets j ≤ℤ offset_at size offsets (j + 1)
  pub ends : offset_at size offsets count ≤ℤ pos limit

-- nothing is asked of offsets that are not there
abbrev pub OffsetsRise : ℕ → List ℕ → ℕ → ℕ → Type 0
OffsetsRise size offsets count limit = (offsets ≡ []) ⊎ DoRise size offsets count limit

-- how many values the first of the columns has
abbrev pub first_length : LaidColumns → ℕ
first_length no_column = 0
first_length (column_then (laid layout node ranges inner) rest) = nat_abs node.0

abbrev pub HasOffsets : List ℕ → Layout → Node → List Range → LaidColumns → Type 0
HasOffsets body null_layout node ranges inner = Unit {0}
HasOffsets body bits_layout node ranges inner = Unit {0}
HasOffsets body (bytes_layout size) node ranges inner = Unit {0}
HasOffsets body (binary_layout offset) node ranges inner =
    OffsetsRise offset (buffer_at body ranges 1) (nat_abs node.0) (length (buffer_at body ranges 2))
HasOffsets body (utf8_layout offset) node ranges inner =
    OffsetsRise offset (buffer_at body ranges 1) (nat_abs node.0) (length (buffer_at body ranges 2))
HasOffsets body (list_layout offset) node ranges inner =
    OffsetsRise offset (buffer_at body ranges 1) (nat_abs node.0) (first_length inner)
HasOffsets body (fixed_size_list_layout size) node ranges inner = Unit {0}
HasOffsets body struct_layout node ranges inner = Unit {0}

-- ---- texts

-- each valid text at these places is UTF-8, by itself
abbrev pub AreUtf8 : List ℕ → Layout → List Range → List ℕ → Type 0
AreUtf8 body null_layout ranges places = Unit {0}
AreUtf8 body bits_layout ranges places = Unit {0}
AreUtf8 body (bytes_layout size) ranges places = Unit {0}
AreUtf8 body (binary_layout offset) ranges places = Unit {0}
AreUtf8 body (utf8_layout offset) ranges places =
    (k : ℕ) → k < length (filter (is_valid (utf8_layout offset) (buffer_at body ranges 0)) places)
    → IsUtf8 (value_bytes offset (buffer_at body ranges 1) (buffer_at body ranges 2)
    (get_or (filter (is_valid (utf8_layout offset) (buffer_at body ranges 0)) places) k 0))
AreUtf8 body (list_layout offset) ranges places = Unit {0}
AreUtf8 body (fixed_size_list_layout size) ranges places = Unit {0}
AreUtf8 body struct_layout ranges places = Unit {0}

-- ---- what a column asks of those inside it

-- how many values they have at least
abbrev pub asked_inside : Layout → ℕ → ℕ
asked_inside null_layout count = 0
asked_inside bits_layout count = 0
asked_inside (bytes_layout size) count = 0
asked_inside (binary_layout offset) count = 0
asked_inside (utf8_layout offset) count = 0
asked_inside (list_layout offset) count = 0
asked_inside (fixed_size_list_layout size) count = size * count
asked_inside struct_layout count = count

-- the places inside that belong to one valid value
abbrev pub places_of : Layout → List ℕ → ℕ → List ℕ
places_of null_layout second j = []
places_of bits_layout second j = []
places_of (bytes_layout size) second j = []
places_of (binary_layout offset) second j = []
places_of (utf8_layout offset) second j = []
places_of (list_layout offset) second j = range_with_len (start_of offset second j) (length_of offset second j)
places_of (fixed_size_list_layout size) second j = range_with_len (size * j) size
places_of struct_layout second j = j ∷ []

-- those that belong to the valid ones of the values at these places
abbrev pub places_inside : List ℕ → Layout → List Range → List ℕ → List ℕ
places_inside body layout ranges places =
    flat_map (places_of layout (buffer_at body ranges 1)) (filter (is_valid layout (buffer_at body ranges 0)) places)
