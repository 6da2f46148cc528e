-- Entries in a file beside those that are due.
use Rattle.std.specs.Prelude.{◌≡◌, ◌≢◌, ℕ, Option, Some, List, slice_get}
use Rattle.record_sums.specs.Sums.{IsEntry, bytes_at}

-- an entry of this number is found where another is due, or none
pub record IsWrong (number : ℕ) (found : List ℕ) (due : Option (List ℕ)) : Type 0 where
  pub stands : IsEntry number found
  pub differs : (entry : List ℕ) → due ≡ Some entry → found ≢ entry

-- so it is in the file
abbrev pub IsWrongAt : List ℕ → List (List ℕ) → ℕ → Type 0
IsWrongAt file entries number = IsWrong number (bytes_at file number) (slice_get entries number)
