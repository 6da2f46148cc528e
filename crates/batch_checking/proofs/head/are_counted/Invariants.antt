use Rattle.std.proofs.Common.{ℕ, ◌<◌, ◌≤ℤ◌, pos, get_or}
use Rattle.batch_types.specs.LaysOut.{values_limit}
use Rattle.batch_checking.proofs.head.are_counted.Given as goal

abbrev pub invariant-loop-node : goal.invariant-loop-node
invariant-loop-node l =
    (k : ℕ) → k < l.node-index → (pos 0 ≤ℤ (get_or l.nodes k (pos 0, pos 0)).0) × ((get_or l.nodes k (pos 0, pos 0)).0 ≤ℤ pos values_limit)
