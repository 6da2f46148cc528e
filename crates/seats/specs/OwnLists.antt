-- What contracts see of the list of what a node did itself, which is held, or counted alone. That it may be counted is this
-- service's own.
use Rattle.std.specs.Prelude.{◌≡◌, ℕ, Bool, List, map}
use Rattle.journal.specs.parts.histories.specs.Owning.{OwnEntry}

pub record OwnList : Type 0 where
  pub entries : List OwnEntry
  -- whether it is held
  pub keeps : Bool
  -- how many more entries it takes without memory
  pub room : ℕ

-- what is counted
pub record Counting : Type 0 where
  pub entries : List OwnEntry
  -- how many more entries it takes
  pub room : ℕ

-- it has what it had before, whatever room it has
pub record LastsAsBefore (old new : OwnList) : Type 0 where
  pub entries_are : new.entries ≡ old.entries
  pub keeps_is : new.keeps ≡ old.keeps

-- the entries that were counted
abbrev pub entries_of : List (OwnEntry × Bool) → List OwnEntry
entries_of counted = map (λ entry. entry.0) counted
