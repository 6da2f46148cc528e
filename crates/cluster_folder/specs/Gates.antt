-- The gates of a file of records on the way to the closed one. The file is this service's own: an open gate, the length of a
-- record, the record, and the next gate.
use Rattle.std.specs.Prelude.{◌≡◌, ℕ, ◌+◌, ◌<◌, List, drop, Option, None, Some, ⊤}
use Rattle.disk_records.specs.RecordFile.{IsClosedAt}

-- open gates with some records, and behind them, at this place of the file, a closed gate
abbrev pub IsClosedGate : List ℕ → ℕ → Type 0
IsClosedGate file gate = (records : _) × IsClosedAt file records gate

-- the bytes from this place of the file on are gates up to the closed one at that place
pub record LeadsTo (file : List ℕ) (place gate : ℕ) : Type 0 where
  pub left : ℕ
  pub far : gate ≡ place + left
  pub closed : IsClosedGate (drop place file) left

-- from a gate at this place: the next gate on the way to the closed one, or that it is closed itself
abbrev pub GoesOn : List ℕ → ℕ → Option ℕ → Type 0
GoesOn file place (Some next) = (gate : ℕ) → LeadsTo file place gate → LeadsTo file next gate
GoesOn file place None = (gate : ℕ) → LeadsTo file place gate → gate ≡ place

-- a gate that is found stands behind this place, and in front of that
abbrev pub IsBetween : ℕ → ℕ → Option ℕ → Type 0
IsBetween place size (Some next) = (place < next) × (next < size)
IsBetween place size None = ⊤
