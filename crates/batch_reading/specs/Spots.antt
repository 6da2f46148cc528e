-- The places of a column that are selected: Apache Arrow, "Arrow Columnar Format", "Physical memory layout", for what
-- stands under a null.
use Rattle.std.specs.Prelude.{◌≡◌, ℕ, zero, suc, ◌+◌, ◌<◌, ◌≤◌, Bool, true, Option, Some, None}
use Rattle.std.specs.Prelude.{List, [], ◌∷◌, ◌++◌, length, drop}
use Rattle.std.specs.Prelude.{replicate}
use Rattle.std.specs.List.{range_with_len, zip}
use Rattle.batch_types.specs.LaysOut.{values_limit}
use Rattle.batch_reading.specs.declared.selection.Run.{Run}
use Rattle.batch_reading.specs.declared.selection.Cursor.{Cursor}
use Rattle.batch_reading.specs.declared.selection.Selection.{Selection}

-- ---- places

-- the places of some runs
abbrev pub places_of : List Run → List ℕ
places_of [] = []
places_of (run ∷ rest) = range_with_len run.start run.count ++ places_of rest

-- The runs are not empty, each lies behind the one before, the first not before this place and the last not behind the
-- other.
abbrev pub DoRun : ℕ → ℕ → List Run → Type 0
DoRun from limit [] = from ≤ limit
DoRun from limit (run ∷ rest) = (from ≤ run.start) × (0 < run.count) × DoRun (run.start + run.count) limit rest

-- the places that are left of some runs
abbrev pub places_ahead : List Run → Cursor → List ℕ
places_ahead runs cursor = range_with_len cursor.place cursor.left ++ places_of (drop cursor.run runs)

-- so many rows from the first one on: one run, or none where there is no row
abbrev pub runs_of_rows : ℕ → List Run
runs_of_rows zero = []
runs_of_rows (suc n) = record { start = 0; count = suc n } ∷ []

-- ---- marks

-- which of so many cells are selected: all where nothing says otherwise
abbrev pub marks_of : ℕ → Option (List Bool) → List Bool
marks_of count None = replicate count true
marks_of count (Some marks) = marks

abbrev pub HasMarks : ℕ → Option (List Bool) → Type 0
HasMarks count None = Unit {0}
HasMarks count (Some marks) = length marks ≡ count

-- ---- spots

-- a place, and whether the cell there is selected
abbrev pub Spot : Type 0
Spot = ℕ × Bool

abbrev pub spots_at : List Run → ℕ → Option (List Bool) → List Spot
spots_at runs count marks = zip (places_of runs) (marks_of count marks)

abbrev pub spots_of : Selection → List Spot
spots_of selection = spots_at selection.runs.now selection.count selection.there.now

-- so many places below a limit, in order, and a mark for each or for none
pub record IsSelection (limit : ℕ) (selection : Selection) : Type 0 where
  pub rising : DoRun 0 limit selection.runs.now
  pub few : limit ≤ values_limit
  pub counted : selection.count ≡ length (places_of selection.runs.now)
  pub marked : HasMarks selection.count selection.there.now
