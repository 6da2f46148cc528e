use Rattle.std.proofs.Common.{◌≡◌, take}
use Rattle.batch_reading.proofs.plan.same_runs.Given as goal

abbrev pub invariant-loop-run : goal.invariant-loop-run
invariant-loop-run l = l.copy.items ≡ take l.run-index l.fn.runs
