-- One step of a journal beside a node's own entries.
use Rattle.std.specs.Prelude.{◌≡◌, ℕ, Bool, Option, None, Some, List, ◌++◌}
use Rattle.journal.specs.parts.ballots.specs.declared.message.Message.{Message}
use Rattle.journal.specs.parts.histories.specs.History.{Step}
use Rattle.journal.specs.parts.histories.specs.Owning.{OwnEntry, entries_of}

-- the entries that the step has of the node stand first, and these are left behind them; or they do not stand first
abbrev pub LeavesOwn : ℕ → List Message → Step → Bool → List OwnEntry → Option (List OwnEntry) → Type 0
LeavesOwn node sent step recovered own (Some left) = own ≡ entries_of node sent step recovered ++ left
LeavesOwn node sent step recovered own None = (left : List OwnEntry) → own ≡ entries_of node sent step recovered ++ left → ⊥
