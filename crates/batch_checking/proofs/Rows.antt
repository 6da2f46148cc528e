-- The row whose value has a place inside it.
use Rattle.std.proofs.Common.{◌≡◌, inl, inr, sym, ap, subst, ℕ, ◌+◌, ◌*◌, ◌<◌, ◌≤◌, List, Option, Some, None, IfSome, IfNone, arith, true}
use Rattle.std.specs.List.{AllByRecursion, range_with_len}
use Rattle.std.specs.Str.{IsUtf8}
use Rattle.batch_types.specs.Placed.{is_valid, start_of, length_of, value_bytes}
use Rattle.batch_types.specs.Rules.{places_of}
use Rattle.batch_columns.specs.Held.{layout_named}
use Rattle.batch_columns.specs.declared.layout.Layout.{Layout as Declared}
use Rattle.batch_columns.specs.declared.layout.Layout.TheVariants.{List as Lists, FixedSizeList, Utf8}
use Rattle.batch_columns.specs.declared.encoded_column.EncodedColumn.{EncodedColumn}
use Rattle.batch_checking.specs.SourceRules.{AreSpread, StandsIn}
use Rattle.batch_checking.specs.Around.{Holds, StandsInside, IsSteady, IsSteadySource, TextsHold}
use Rattle.batch_checking.proofs.Held.{held_range, range_held, below_held}
use Rattle.batch_checking.proofs.Spread.{one_row}

-- ---- blocks of one size

block_stands : (o : Option ℕ) (size place : ℕ) → IfSome o (λ row. (size * row ≤ place) × (place < size * row + size))
    → IfSome o (λ row. Holds (range_with_len (size * row) size) place)
block_stands None size place h = h
block_stands (Some row) size place h = held_range (size * row) size place h.0 h.1

pub fixed_stands : (s : EncodedColumn) (size place : ℕ) (o : Option ℕ) → s.layout ≡ FixedSizeList size
    → IfSome o (λ row. (size * row ≤ place) × (place < size * row + size)) → IfSome o (λ row. StandsInside s row place)
fixed_stands s size place o is h =
    subst (λ (l : Declared). IfSome o (λ row. Holds (places_of (layout_named l) s.offsets.now row) place)) (sym is) (block_stands o size place h)

pub fixed_found : (s : EncodedColumn) (size place : ℕ) (o : Option ℕ) → s.layout ≡ FixedSizeList size
    → ((row : ℕ) → size * row ≤ place → place < size * row + size → o ≡ Some row)
    → (row : ℕ) → row < s.length → StandsInside s row place → o ≡ Some row
fixed_found s size place o is found row below stands =
    let there : Holds (range_with_len (size * row) size) place =
    subst (λ (l : Declared). Holds (places_of (layout_named l) s.offsets.now row) place) is stands in
    let within = range_held (size * row) size place there in found row within.0 within.1

-- ---- spans by offsets

span_stands : (offsets : List ℕ) (o : Option ℕ) (count place : ℕ) → IfSome o (λ row. (row < count) × StandsIn offsets row place)
    → IfSome o (λ row. Holds (range_with_len (start_of 4 offsets row) (length_of 4 offsets row)) place)
span_stands offsets None count place h = h
span_stands offsets (Some row) count place h = held_range (start_of 4 offsets row) (length_of 4 offsets row) place h.1.0 (omega (arith, h.1.0, h.1.1))

pub list_stands : (s : EncodedColumn) (place : ℕ) (o : Option ℕ) → s.layout ≡ Lists
    → IfSome o (λ row. (row < s.length) × StandsIn s.offsets.now row place) → IfSome o (λ row. StandsInside s row place)
list_stands s place o is h =
    subst (λ (l : Declared). IfSome o (λ row. Holds (places_of (layout_named l) s.offsets.now row) place)) (sym is) (span_stands s.offsets.now o s.length place h)

stood : (offsets : List ℕ) (row place : ℕ) → Holds (range_with_len (start_of 4 offsets row) (length_of 4 offsets row)) place → StandsIn offsets row place
stood offsets row place h =
    let within = range_held (start_of 4 offsets row) (length_of 4 offsets row) place h in (within.0, omega (arith, within.0, within.1))

span_found : (offsets : List ℕ) (count place : ℕ) (o : Option ℕ) → AreSpread offsets count
    → IfSome o (λ row. (row < count) × StandsIn offsets row place) → IfNone o ((row : ℕ) → row < count → ¬ (StandsIn offsets row place))
    → (row : ℕ) → row < count → StandsIn offsets row place → o ≡ Some row
span_found offsets count place o (inl empty) some none row below stands = absurd (omega arith)
span_found offsets count place None (inr spread) some none row below stands = absurd (none row below stands)
span_found offsets count place (Some r) (inr spread) some none row below stands =
    ap Some (one_row offsets count spread.1 r row place some.0 below some.1 stands)

pub list_spread : (s : EncodedColumn) → s.layout ≡ Lists → IsSteadySource s → AreSpread s.offsets.now s.length
list_spread s is steady = subst (λ (l : Declared). IsSteady (layout_named l) s.length s.offsets.now) is steady.steady

pub list_found : (s : EncodedColumn) (place : ℕ) (o : Option ℕ) → s.layout ≡ Lists → IsSteadySource s
    → IfSome o (λ row. (row < s.length) × StandsIn s.offsets.now row place) → IfNone o ((row : ℕ) → row < s.length → ¬ (StandsIn s.offsets.now row place))
    → (row : ℕ) → row < s.length → StandsInside s row place → o ≡ Some row
list_found s place o is steady some none row below stands =
    span_found s.offsets.now s.length place o (list_spread s is steady) some none row below
    (stood s.offsets.now row place (subst (λ (l : Declared). Holds (places_of (layout_named l) s.offsets.now row) place) is stands))

-- ---- texts

abbrev Each : Declared → List ℕ → List ℕ → List ℕ → ℕ → List ℕ → Type 0
Each layout validity offsets values count places =
    (row : ℕ) → row < count → Holds places row → is_valid (layout_named layout) validity row ≡ true → IsUtf8 (value_bytes 4 offsets values row)

texts_same : (validity offsets values : List ℕ) (count : ℕ) (places : List ℕ) → AllByRecursion (λ row. row < count) places
    → (Each Utf8 validity offsets values count places → TextsHold (layout_named Utf8) validity offsets values places)
    × (TextsHold (layout_named Utf8) validity offsets values places → Each Utf8 validity offsets values count places)
texts_same validity offsets values count places below = (
  λ each row there valid. each row (below_held count places row below there) there valid,
  λ all row within there valid. all row there valid,
)

pub texts_are : (layout : Declared) (validity offsets values : List ℕ) (count : ℕ) (places : List ℕ) → layout ≡ Utf8 → AllByRecursion (λ row. row < count) places
    → (Each layout validity offsets values count places → TextsHold (layout_named layout) validity offsets values places)
    × (TextsHold (layout_named layout) validity offsets values places → Each layout validity offsets values count places)
texts_are layout validity offsets values count places is below =
    subst (λ (l : Declared). (Each l validity offsets values count places → TextsHold (layout_named l) validity offsets values places)
    × (TextsHold (layout_named l) validity offsets values places → Each l validity offsets values count places)) (sym is)
    (texts_same validity offsets values count places below)
