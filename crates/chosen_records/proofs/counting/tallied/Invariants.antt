use Rattle.std.proofs.Common.{map, take}
use Rattle.chosen_records.specs.Tallies.{IsTallyOf}
use Rattle.chosen_records.proofs.counting.tallied.Given as goal

abbrev pub invariant-loop-number : goal.invariant-loop-number
invariant-loop-number l = IsTallyOf (take l.number (map (λ own. own.items) l.records)) l.tallies
