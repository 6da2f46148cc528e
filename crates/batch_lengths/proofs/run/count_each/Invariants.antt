use Rattle.std.proofs.Common.{◌≡◌, ℕ, ◌+◌}
use Rattle.batch_lengths.specs.Along.{run_spots}
use Rattle.batch_lengths.specs.Counted.{IsCounted}
use Rattle.batch_lengths.proofs.run.count_each.Given as goal

abbrev pub invariant-loop-place : goal.invariant-loop-place
invariant-loop-place l = (done : ℕ) × (l.start + done ≡ l.place) × IsCounted l.source (run_spots l.start done) l.counted
