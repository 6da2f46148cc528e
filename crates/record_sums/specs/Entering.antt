-- The entries of records, as they are made.
use Rattle.std.specs.Prelude.{◌≡◌, ℕ, Some, List, [], ◌∷◌, ◌++◌, length, slice_get}
use Rattle.ballots.specs.declared.record.Record.{Record}
use Rattle.record_sums.specs.Sums.{entry_of}

-- an entry for each of these records
pub record AreEntries (entries : List (List ℕ)) (records : List Record) : Type 0 where
  pub all : length entries ≡ length records
  pub each : (number : ℕ) (told : Record) → slice_get records number ≡ Some told
      → slice_get entries number ≡ Some (entry_of number told)

-- entries, one behind the other
abbrev pub entries_text : List (List ℕ) → List ℕ
entries_text [] = []
entries_text (entry ∷ later) = entry ++ entries_text later
