-- Which cells of a column are wanted: tools of contracts. Which are wanted inside a column is defined in `Planned` of
-- `batch_reading`, after Apache Arrow, "Arrow Columnar Format", "Physical memory layout".
use Rattle.std.specs.Prelude.{◌≡◌, ℕ, ◌+◌, ◌<◌, ◌≤◌, ◌||◌, Bool, true, false, List, map}
use Rattle.std.specs.List.{range_with_len}
use Rattle.bitmaps.specs.Bits.{bit_of}
use Rattle.batch_columns.specs.Held.{layout_named}
use Rattle.batch_columns.specs.declared.encoded_column.EncodedColumn.{EncodedColumn}
use Rattle.batch_reading.specs.Spots.{Spot}
use Rattle.batch_reading.specs.Taken.{valid_in, seen}
use Rattle.batch_reading.specs.Planned.{spots_inside}
use Rattle.batch_lengths.specs.declared.validity_mask.ValidityMask.{ValidityMask}

-- so many following places, whose cells are wanted
abbrev pub run_spots : ℕ → ℕ → List Spot
run_spots start count = map (λ place. (place, true)) (range_with_len start count)

-- so many following places, whose cells are not wanted
abbrev pub blank_spots : ℕ → ℕ → List Spot
blank_spots start count = map (λ place. (place, false)) (range_with_len start count)

-- what is wanted inside a column of which this is
abbrev pub source_spots : EncodedColumn → List Spot → List Spot
source_spots source spots =
    spots_inside (layout_named source.layout) source.offsets.now (map (seen source.validity.now) spots)

-- ---- marks

-- whether the cell of this number among the marked ones is wanted
abbrev pub mark_of : ValidityMask → ℕ → Bool
mark_of marks number = marks.all || bit_of marks.set number

-- the places of so many from this number on
abbrev pub marked_from : ValidityMask → ℕ → ℕ → List Spot
marked_from marks low n = map (λ number. (marks.start + number, mark_of marks number)) (range_with_len low n)

abbrev pub spots_marked : ValidityMask → List Spot
spots_marked marks = marked_from marks 0 marks.count

-- there are marks for all of them
abbrev pub IsMarked : ValidityMask → Type 0
IsMarked marks = (0 < marks.count) × (marks.all ≡ false → marks.count ≤ 1024)

-- there are marks for all of them, if there are any, and none are set behind them
abbrev pub IsGathered : ValidityMask → Type 0
IsGathered marks =
    marks.all ≡ false → (marks.count ≤ 1024) × ((number : ℕ) → marks.count ≤ number → bit_of marks.set number ≡ false)

-- those that are wanted are valid by a bitmap
abbrev pub AreTaken : List ℕ → ValidityMask → Type 0
AreTaken validity marks =
    (number : ℕ) → number < marks.count → mark_of marks number ≡ true → valid_in validity (marks.start + number) ≡ true
