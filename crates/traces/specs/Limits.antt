-- What a run may have. These limits are this service's own.
use Rattle.std.specs.Prelude.{ℕ, ◌≤◌}
use Rattle.agreement.specs.Limits.{IsSlotLimit, max_slots}
use Rattle.traces.specs.declared.config.Config.{Config}

-- slots that nodes may agree on
abbrev pub most_slots : ℕ
most_slots = max_slots

-- entries of a journal
abbrev pub most_entries : ℕ
most_entries = 1000000

abbrev pub IsWithinLimits : Config → Type 0
IsWithinLimits config = IsSlotLimit config.slot_limit × (1 ≤ config.journal_limit) × (config.journal_limit ≤ most_entries)
