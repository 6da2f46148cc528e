use Rattle.std.proofs.Common.{◌<◌, ◌≤◌, ◌-◌}
use Rattle.batch_types.specs.Placed.{start_of}
use Rattle.batch_checking.proofs.offsets.bounds_around.Given as goal

abbrev pub invariant-loop-step : goal.invariant-loop-step
invariant-loop-step l = (l.first ≤ l.low) × (l.low ≤ l.count) × (0 < l.step) × (start_of 4 l.offsets l.low ≤ l.place)

abbrev pub decreases-loop-step : goal.decreases-loop-step
decreases-loop-step l = l.count - l.low
