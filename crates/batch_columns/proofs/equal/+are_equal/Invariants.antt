use Rattle.std.proofs.Common.{◌≡◌, drop}
use Rattle.batch_columns.specs.Held.{shapes_held, heights}
use Rattle.batch_columns.proofs.equal.+are_equal.Given as goal

abbrev pub decreases-are_equal : goal.decreases-are_equal
decreases-are_equal l = heights (shapes_held l.left.now)

abbrev pub invariant-loop-index : goal.invariant-loop-index
invariant-loop-index l =
    (drop l.index l.left ≡ drop l.index l.right → l.left ≡ l.right) × (l.left ≡ l.right → drop l.index l.left ≡ drop l.index l.right)
