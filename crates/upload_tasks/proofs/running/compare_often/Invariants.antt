use Rattle.std.proofs.Common.{◌≡◌}
use Rattle.upload_tasks.proofs.running.compare_often.Given as goal

abbrev pub invariant-loop : goal.invariant-loop
invariant-loop l = l.count ≡ 0 → l.sum ≡ 0
