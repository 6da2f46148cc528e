use Rattle.std.proofs.Common.{◌≡◌, ◌++◌}
use Rattle.chosen_records.specs.Tallies.{told_below}
use Rattle.chosen_records.proofs.telling.tell.Given as goal

abbrev pub invariant-loop-number : goal.invariant-loop-number
invariant-loop-number l = l.told.items ≡ l.fn.told.items ++ told_below l.number l.place l.tally
