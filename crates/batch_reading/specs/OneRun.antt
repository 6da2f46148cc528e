-- What is taken of one run of places: Apache Arrow, "Arrow Columnar Format", "Variable-size binary layout" and
-- "Variable-size list layout".
use Rattle.std.specs.Prelude.{◌≡◌, ℕ, zero, suc, ◌+◌, ◌-◌, List, [], ◌∷◌, None}
use Rattle.std.specs.List.{flat_map, range_with_len}
use Rattle.byteorder.specs.Endian.{little_bytes}
use Rattle.batch_types.specs.Placed.{start_of}
use Rattle.batch_reading.specs.declared.selection.Run.{Run}
use Rattle.batch_reading.specs.declared.plan.ChildSelection.{ChildSelection}

-- the offsets of so many values from this one on, and where the last of them ends, without the first offset
abbrev pub offsets_from_zero : List ℕ → ℕ → ℕ → List ℕ
offsets_from_zero offsets start count =
    flat_map (λ j. little_bytes 4 (start_of 4 offsets (start + j) - start_of 4 offsets start)) (range_with_len 0 (count + 1))

-- so many places from this one on: one run, or none where there is no place
abbrev pub runs_from : ℕ → ℕ → List Run
runs_from start zero = []
runs_from start (suc n) = record { start = start; count = suc n } ∷ []

-- the elements of so many lists from this one on are selected inside
pub record AreElements (offsets : List ℕ) (start count : ℕ) (inside : ChildSelection) : Type 0 where
  pub counted : inside.count ≡ start_of 4 offsets (start + count) - start_of 4 offsets start
  pub runs_are : inside.runs.items ≡ runs_from (start_of 4 offsets start) inside.count
  pub all_there : inside.there ≡ None
