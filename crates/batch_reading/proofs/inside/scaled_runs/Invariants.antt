use Rattle.std.proofs.Common.{◌≡◌, map, take}
use Rattle.batch_reading.specs.Gathered.{scaled}
use Rattle.batch_reading.proofs.inside.scaled_runs.Given as goal

abbrev pub invariant-loop-run : goal.invariant-loop-run
invariant-loop-run l = l.made.items ≡ map (scaled l.fn.size) (take l.run-index l.fn.runs)
