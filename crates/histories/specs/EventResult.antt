-- What an event gave.
use Rattle.std.specs.Prelude.{ℕ, Bool, true, false, List}
use Rattle.table_types.specs.Tables.{Outcome as TableOutcome}

pub data Reason : Type 0 where
  OutOfRange : Reason
  SlotsSpent : Reason
  RoundsSpent : Reason
  OutOfMemory : Reason
  Down : Reason
  NotSent : Reason

pub data EventResult : Type 0 where
  -- so many messages, numbered from the first on
  Sent : (first : ℕ) → (count : ℕ) → EventResult
  Done : EventResult
  Answer : List ℕ → EventResult
  Unavailable : EventResult
  Info : ℕ → EventResult
  NoTable : EventResult
  Outcome : TableOutcome → EventResult
  Refused : Reason → EventResult

-- how many messages went out
abbrev pub count_of : EventResult → ℕ
count_of (Sent first count) = count
count_of Done = 0
count_of (Answer bytes) = 0
count_of Unavailable = 0
count_of (Info version) = 0
count_of NoTable = 0
count_of (Outcome outcome) = 0
count_of (Refused reason) = 0

-- it was done: a put was taken, or the node went down or was started again
abbrev pub is_done : EventResult → Bool
is_done (Sent first count) = false
is_done Done = true
is_done (Answer bytes) = false
is_done Unavailable = false
is_done (Info version) = false
is_done NoTable = false
is_done (Outcome outcome) = false
is_done (Refused reason) = false
