-- What a column is built of, its layout and its cells aside: Apache Arrow, "Arrow Columnar Format", "Physical memory
-- layout".
use Rattle.std.specs.Prelude.{◌≡◌, ℕ, ◌*◌, true, false, if◌then◌else◌, List, [], ◌∷◌, map, length}
use Rattle.std.specs.List.{flat_map, range_with_len}
use Rattle.bitmaps.specs.Bits.{zeros}
use Rattle.bitmaps.specs.Packing.{packed_bytes}
use Rattle.batch_types.specs.Canonical.{offsets_of}
use Rattle.batch_types.specs.Layouts.{Layout, null_layout, bits_layout, bytes_layout, binary_layout, utf8_layout}
use Rattle.batch_types.specs.Layouts.{list_layout, fixed_size_list_layout, struct_layout}
use Rattle.batch_types.specs.Placed.{start_of, length_of}
use Rattle.batch_columns.specs.Made.{validity_bytes}
use Rattle.batch_reading.specs.declared.plan.ChildSelection.{ChildSelection}
use Rattle.batch_reading.specs.declared.plan.Plan.{Plan}
use Rattle.batch_reading.specs.Spots.{DoRun, places_of, HasMarks, Spot, spots_at}
use Rattle.batch_reading.specs.Taken.{is_shown, seen, bit_taken, block_taken, span_taken}

-- ---- nulls

abbrev pub nulls_planned : Layout → List ℕ → List Spot → ℕ
nulls_planned null_layout validity spots = length spots
nulls_planned bits_layout validity spots = zeros (map (is_shown validity) spots)
nulls_planned (bytes_layout size) validity spots = zeros (map (is_shown validity) spots)
nulls_planned (binary_layout offset) validity spots = zeros (map (is_shown validity) spots)
nulls_planned (utf8_layout offset) validity spots = zeros (map (is_shown validity) spots)
nulls_planned (list_layout offset) validity spots = zeros (map (is_shown validity) spots)
nulls_planned (fixed_size_list_layout size) validity spots = zeros (map (is_shown validity) spots)
nulls_planned struct_layout validity spots = zeros (map (is_shown validity) spots)

abbrev pub validity_planned : Layout → List ℕ → List Spot → List ℕ
validity_planned null_layout validity spots = []
validity_planned bits_layout validity spots = validity_bytes (map (is_shown validity) spots)
validity_planned (bytes_layout size) validity spots = validity_bytes (map (is_shown validity) spots)
validity_planned (binary_layout offset) validity spots = validity_bytes (map (is_shown validity) spots)
validity_planned (utf8_layout offset) validity spots = validity_bytes (map (is_shown validity) spots)
validity_planned (list_layout offset) validity spots = validity_bytes (map (is_shown validity) spots)
validity_planned (fixed_size_list_layout size) validity spots = validity_bytes (map (is_shown validity) spots)
validity_planned struct_layout validity spots = validity_bytes (map (is_shown validity) spots)

-- ---- values, of those that are taken

-- the places of the elements of a list, none where it is not taken
abbrev pub elements_taken : List ℕ → Spot → List ℕ
elements_taken offsets spot =
    if spot.1 then range_with_len (start_of 4 offsets spot.0) (length_of 4 offsets spot.0) else []

abbrev pub offsets_planned : Layout → List ℕ → List ℕ → List Spot → List ℕ
offsets_planned null_layout offsets values taken = []
offsets_planned bits_layout offsets values taken = []
offsets_planned (bytes_layout size) offsets values taken = []
offsets_planned (binary_layout offset) offsets values taken =
    offsets_of 4 (map (λ spot. length (span_taken offsets values spot)) taken)
offsets_planned (utf8_layout offset) offsets values taken =
    offsets_of 4 (map (λ spot. length (span_taken offsets values spot)) taken)
offsets_planned (list_layout offset) offsets values taken =
    offsets_of 4 (map (λ spot. length (elements_taken offsets spot)) taken)
offsets_planned (fixed_size_list_layout size) offsets values taken = []
offsets_planned struct_layout offsets values taken = []

abbrev pub values_planned : Layout → List ℕ → List ℕ → List Spot → List ℕ
values_planned null_layout offsets values taken = []
values_planned bits_layout offsets values taken = packed_bytes (map (bit_taken values false) taken)
values_planned (bytes_layout size) offsets values taken = flat_map (block_taken size values) taken
values_planned (binary_layout offset) offsets values taken = flat_map (span_taken offsets values) taken
values_planned (utf8_layout offset) offsets values taken = flat_map (span_taken offsets values) taken
values_planned (list_layout offset) offsets values taken = []
values_planned (fixed_size_list_layout size) offsets values taken = []
values_planned struct_layout offsets values taken = []

-- ---- what is selected inside

-- Inside a list the elements of those that are taken, inside a list of one size and inside a struct blank cells for the
-- others.
abbrev pub spots_under : Layout → List ℕ → Spot → List Spot
spots_under null_layout offsets spot = []
spots_under bits_layout offsets spot = []
spots_under (bytes_layout size) offsets spot = []
spots_under (binary_layout offset) offsets spot = []
spots_under (utf8_layout offset) offsets spot = []
spots_under (list_layout offset) offsets spot = map (λ place. (place, true)) (elements_taken offsets spot)
spots_under (fixed_size_list_layout size) offsets spot =
    map (λ place. (place, spot.1)) (range_with_len (size * spot.0) size)
spots_under struct_layout offsets spot = spot ∷ []

abbrev pub spots_inside : Layout → List ℕ → List Spot → List Spot
spots_inside layout offsets taken = flat_map (spots_under layout offsets) taken

-- these spots are selected inside, in order
pub record AreInside (spots : List Spot) (inside : ChildSelection) : Type 0 where
  pub rising : (end : ℕ) × DoRun 0 end inside.runs.items
  pub counted : inside.count ≡ length (places_of inside.runs.items)
  pub marked : HasMarks inside.count inside.there
  pub spots_are : spots_at inside.runs.items inside.count inside.there ≡ spots

-- ---- all of it

-- by the validity, the offsets and the values, for these spots
pub record IsPlanned (layout : Layout) (validity offsets values : List ℕ) (spots : List Spot) (plan : Plan)
    : Type 0 where
  pub nulls_are : plan.nulls ≡ nulls_planned layout validity spots
  pub validity_is : plan.validity.items ≡ validity_planned layout validity spots
  pub offsets_is : plan.offsets.items ≡ offsets_planned layout offsets values (map (seen validity) spots)
  pub values_is : plan.values.items ≡ values_planned layout offsets values (map (seen validity) spots)
  pub inside_is : AreInside (spots_inside layout offsets (map (seen validity) spots)) plan.inside
