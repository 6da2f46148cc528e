use Rattle.std.proofs.Common.{◌≡◌, ◌++◌, ◌∷◌, [], List, length, take}
use Rattle.ballots.specs.declared.record.Record.{Record}
use Rattle.chosen_records.specs.Tallies.{IsTallyOf}
use Rattle.chosen_records.proofs.counting.count_own.Given as goal

abbrev pub invariant-loop-told : goal.invariant-loop-told
invariant-loop-told l =
    (done : List (List Record)) → length done ≡ l.node → IsTallyOf done l.fn.tallies
    → IsTallyOf (done ++ take l.told-index l.own ∷ []) l.tallies
