use Rattle.std.proofs.Common.{◌<◌, ◌≤◌, ◌-◌}
use Rattle.batch_types.specs.Placed.{start_of}
use Rattle.batch_checking.proofs.offsets.row_between.Given as goal

abbrev pub invariant-loop-high : goal.invariant-loop-high
invariant-loop-high l =
    (l.low < l.high) × (l.high ≤ l.initial.high) × (start_of 4 l.offsets l.low ≤ l.place) × (l.place < start_of 4 l.offsets l.high)

abbrev pub decreases-loop-high : goal.decreases-loop-high
decreases-loop-high l = l.high - l.low
