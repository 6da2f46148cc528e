use Rattle.std.proofs.Common.{◌≡◌}
use Rattle.store_tasks.proofs.storing.recall_often.Given as goal

abbrev pub invariant-loop : goal.invariant-loop
invariant-loop g l = l.count ≡ 0 → l.sum ≡ 0
