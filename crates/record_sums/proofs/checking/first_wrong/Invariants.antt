use Rattle.std.proofs.Common.{ℕ, ◌<◌}
use Rattle.record_sums.specs.Checking.{IsWrongAt}
use Rattle.record_sums.proofs.checking.first_wrong.Given as goal

abbrev pub invariant-loop-number : goal.invariant-loop-number
invariant-loop-number l = (other : ℕ) → other < l.number → IsWrongAt l.sums l.entries other → ⊥
