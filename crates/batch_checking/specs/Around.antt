-- Which places of a column belong to a batch, where other columns stand around it: Apache Arrow, "Arrow Columnar
-- Format", "Physical memory layout". A tool of contracts: the places themselves are defined in `Rules` of
-- `batch_types`.
use Rattle.std.specs.Prelude.{◌≡◌, ◌⊎◌, ℕ, ◌<◌, ◌≤◌, true, List, [], ◌∷◌}
use Rattle.std.specs.List.{AllByRecursion, filter, flat_map}
use Rattle.std.specs.Str.{IsUtf8}
use Rattle.batch_types.specs.Layouts.{Layout, null_layout, bits_layout, bytes_layout, binary_layout, utf8_layout}
use Rattle.batch_types.specs.Layouts.{list_layout, fixed_size_list_layout, struct_layout}
use Rattle.batch_types.specs.Placed.{is_valid, value_bytes}
use Rattle.batch_types.specs.Rules.{places_of}
use Rattle.batch_types.specs.LaysOut.{values_limit}
use Rattle.batch_columns.specs.Held.{layout_named}
use Rattle.batch_columns.specs.declared.encoded_column.EncodedColumn.{EncodedColumn}
use Rattle.batch_checking.specs.SourceRules.{AreSpread}

-- the number is in the list
abbrev pub Holds : List ℕ → ℕ → Type 0
Holds [] x = ⊥
Holds (y ∷ ys) x = (y ≡ x) ⊎ Holds ys x

-- the value at this row is valid
abbrev pub IsValidAt : EncodedColumn → ℕ → Type 0
IsValidAt source row = is_valid (layout_named source.layout) source.validity.now row ≡ true

-- the place inside belongs to the value at this row
abbrev pub StandsInside : EncodedColumn → ℕ → ℕ → Type 0
StandsInside source row place = Holds (places_of (layout_named source.layout) source.offsets.now row) place

-- the places inside the column that belong to those of the values at these places that are valid
abbrev pub source_places : EncodedColumn → List ℕ → List ℕ
source_places source places =
    flat_map (places_of (layout_named source.layout) source.offsets.now)
    (filter (is_valid (layout_named source.layout) source.validity.now) places)

-- the same of columns each around the next
abbrev pub places_around : List ℕ → List EncodedColumn → List ℕ
places_around places [] = places
places_around places (source ∷ rest) = places_around (source_places source places) rest

-- values of a list begin and end at offsets that are there and do not fall
abbrev pub IsSteady : Layout → ℕ → List ℕ → Type 0
IsSteady null_layout count offsets = Unit {0}
IsSteady bits_layout count offsets = Unit {0}
IsSteady (bytes_layout size) count offsets = Unit {0}
IsSteady (binary_layout offset) count offsets = Unit {0}
IsSteady (utf8_layout offset) count offsets = Unit {0}
IsSteady (list_layout offset) count offsets = AreSpread offsets count
IsSteady (fixed_size_list_layout size) count offsets = Unit {0}
IsSteady struct_layout count offsets = Unit {0}

-- such a column has no more values than one may have
pub record IsSteadySource (source : EncodedColumn) : Type 0 where
  pub few : source.length ≤ values_limit
  pub steady : IsSteady (layout_named source.layout) source.length source.offsets.now

-- each column is one, and has the places that belong to it
abbrev pub AreSteady : List ℕ → List EncodedColumn → Type 0
AreSteady places [] = Unit {0}
AreSteady places (source ∷ rest) =
    AllByRecursion (λ row. row < source.length) places × IsSteadySource source
    × AreSteady (source_places source places) rest

-- each valid text at these places is UTF-8
abbrev pub TextsHold : Layout → List ℕ → List ℕ → List ℕ → List ℕ → Type 0
TextsHold null_layout validity offsets values places = Unit {0}
TextsHold bits_layout validity offsets values places = Unit {0}
TextsHold (bytes_layout size) validity offsets values places = Unit {0}
TextsHold (binary_layout offset) validity offsets values places = Unit {0}
TextsHold (utf8_layout offset) validity offsets values places =
    (row : ℕ) → Holds places row → is_valid (utf8_layout offset) validity row ≡ true
    → IsUtf8 (value_bytes offset offsets values row)
TextsHold (list_layout offset) validity offsets values places = Unit {0}
TextsHold (fixed_size_list_layout size) validity offsets values places = Unit {0}
TextsHold struct_layout validity offsets values places = Unit {0}
