-- Places that are gathered one behind the other.
use Rattle.std.specs.Prelude.{◌≡◌, ℕ, ◌+◌, ◌*◌, ◌≤◌, List, ◌++◌, length}
use Rattle.std.specs.List.{range_with_len}
use Rattle.batch_reading.specs.declared.selection.Run.{Run}
use Rattle.batch_reading.specs.declared.inside.Spans.{Spans}
use Rattle.batch_reading.specs.Spots.{DoRun, places_of}

-- so many places for each of a run
abbrev pub scaled : ℕ → Run → Run
scaled size run = record { start = size * run.start; count = size * run.count }

-- the places that were gathered, those of the last run too
abbrev pub places_gathered : Spans → List ℕ
places_gathered spans = places_of spans.runs.items ++ range_with_len spans.last.start spans.last.count

-- they lie in order below this place
pub record AreGathered (end : ℕ) (spans : Spans) : Type 0 where
  pub closed : DoRun 0 spans.last.start spans.runs.items
  pub opened : spans.last.start + spans.last.count ≤ end
  pub counted : spans.count ≡ length (places_gathered spans)
