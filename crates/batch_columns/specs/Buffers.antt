-- Which buffers of a column hold its offsets and its values: Apache Arrow, "Arrow Columnar Format", "Buffer Listing for Each
-- Layout". Buffer 0 is the validity; the offsets, where a layout has some, are buffer 1, and the values are the buffer behind.
use Rattle.std.specs.Prelude.{◌≡◌, refl, ℕ, Bool, true, false, if◌then◌else◌, List, [], get_or}
use Rattle.batch_types.specs.Cells.{Cell, Cells}
use Rattle.batch_types.specs.Layouts.{Layout, null_layout, bits_layout, bytes_layout, binary_layout, utf8_layout}
use Rattle.batch_types.specs.Layouts.{list_layout, fixed_size_list_layout, struct_layout}
use Rattle.batch_types.specs.Placed.{value_at}

-- whether offsets say where its values begin
abbrev pub has_offsets : Layout → Bool
has_offsets null_layout = false
has_offsets bits_layout = false
has_offsets (bytes_layout size) = false
has_offsets (binary_layout offset) = true
has_offsets (utf8_layout offset) = true
has_offsets (list_layout offset) = true
has_offsets (fixed_size_list_layout size) = false
has_offsets struct_layout = false

-- the offsets and the values among its buffers, each empty where its layout has none
abbrev pub offsets_among : Layout → List (List ℕ) → List ℕ
offsets_among layout buffers = if has_offsets layout then get_or buffers 1 [] else []

abbrev pub values_among : Layout → List (List ℕ) → List ℕ
values_among layout buffers = if has_offsets layout then get_or buffers 2 [] else get_or buffers 1 []

-- buffer 1, by the offsets and the values
abbrev pub behind_validity : Layout → List ℕ → List ℕ → List ℕ
behind_validity layout offsets values = if has_offsets layout then offsets else values

pub behind_validity_is : (layout : Layout) (buffers : List (List ℕ))
    → behind_validity layout (offsets_among layout buffers) (values_among layout buffers) ≡ get_or buffers 1 []
behind_validity_is null_layout buffers = refl
behind_validity_is bits_layout buffers = refl
behind_validity_is (bytes_layout size) buffers = refl
behind_validity_is (binary_layout offset) buffers = refl
behind_validity_is (utf8_layout offset) buffers = refl
behind_validity_is (list_layout offset) buffers = refl
behind_validity_is (fixed_size_list_layout size) buffers = refl
behind_validity_is struct_layout buffers = refl

-- the value at place j, by the offsets and the values
abbrev pub value_by : Layout → List ℕ → List ℕ → (List ℕ → Cells) → (ℕ → Cells) → ℕ → Cell
value_by layout offsets values elements fields j =
    if has_offsets layout
    then value_at layout offsets values elements fields j
    else value_at layout values [] elements fields j
