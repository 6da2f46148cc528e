-- What the calls of a disk do to its one file, and what a crash may leave of it. POSIX, "write" and "fsync": a write is
-- sure to be on the medium once a sync that follows it was successful; until then it may be there in part, and a crash
-- may leave anything of it. Moments are this service's own.
use Rattle.std.specs.Prelude.{◌≡◌, ◌⊎◌, ℕ, ◌+◌, ◌<◌, ◌≤◌, max, List, ◌++◌, length, take, drop, Result, MatchResult}
use Rattle.std.specs.Io.{StartsWith}

-- each call that fails raises the count of failures, and nothing else does
abbrev pub CountsFailure : {T E : Type 0} → Result T E → ℕ → ℕ → Type 0
CountsFailure result old new = MatchResult result (λ _. new ≡ old) (λ _. old < new)

-- these bytes stand at this place of the file, each of them within it
pub record StandsAt (file : List ℕ) (at : ℕ) (bytes : List ℕ) : Type 0 where
  pub within : at + length bytes ≤ length file
  pub these : bytes ≡ take (length bytes) (drop at file)

-- the file with these bytes written at this place
abbrev pub written_at : List ℕ → ℕ → List ℕ → List ℕ
written_at file at bytes = take at file ++ (bytes ++ drop (at + length bytes) file)

-- A write of so many bytes at this place that a crash cuts short: any bytes there, and past the old end; all others
-- stay.
pub record IsTorn (at count : ℕ) (old new : List ℕ) : Type 0 where
  pub before : StartsWith new (take at old)
  pub after : drop (at + count) new ≡ drop (at + count) old
  pub no_shorter : length old ≤ length new
  pub no_longer : length new ≤ max (length old) (at + count)

-- what a crash may leave once such a write has begun
abbrev pub MayBeTorn : ℕ → ℕ → (List ℕ → Type 0) → List ℕ → Type 0
MayBeTorn at count may_leave file = (before : List ℕ) × may_leave before × IsTorn at count before file

-- a crash leaves these bytes
abbrev pub LeavesOnly : List ℕ → (List ℕ → Type 0) → Type 0
LeavesOnly content may_leave = (file : List ℕ) → may_leave file → file ≡ content

-- A crash at any moment from an old one to a new one leaves a file of which this holds. `old_since t` and `new_since t`
-- are what a crash from the moment t on might have left, as it is told at the old moment and at the new one.
pub record CrashLeaves (old new : ℕ) (old_since new_since : ℕ → List ℕ → Type 0)
    (may_stand : List ℕ → Type 0) : Type 0 where
  pub later : old ≤ new
  pub leaves : (file : List ℕ) → new_since old file → may_stand file
  -- for what began earlier
  pub before : (t : ℕ) (file : List ℕ) → t ≤ old → new_since t file → old_since t file ⊎ may_stand file
  -- what a crash might have left stays
  pub remembers : (t : ℕ) (file : List ℕ) → t ≤ old → old_since t file → new_since t file
