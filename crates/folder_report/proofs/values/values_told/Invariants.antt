use Rattle.std.proofs.Common.{◌≤◌, ℕ, List, length, take}
use Rattle.std.specs.List.{All}
use Rattle.std.specs.List.Sorted.{IsNonDecreasingBy}
use Rattle.ballots.specs.declared.record.Record.{Record}
use Rattle.chosen_records.specs.Chosen.{TellsChosen}
use Rattle.folder_report.specs.Values.{FillSlots, slots_limit}
use Rattle.folder_report.proofs.values.values_told.Given as goal

abbrev pub invariant-loop-message : goal.invariant-loop-message
invariant-loop-message l = record {
  fill : (members : ℕ) (all : List (List Record)) → All (TellsChosen members all) l.told → IsNonDecreasingBy (λ message. message.slot) l.told
      → FillSlots members all (take l.message-index l.told) l.values.items;
  few : length l.values.items ≤ slots_limit;
}
