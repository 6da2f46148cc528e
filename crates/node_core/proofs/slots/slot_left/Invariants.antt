use Rattle.std.proofs.Common.{◌≤◌}
use Rattle.node_core.proofs.Free.{Passed}
use Rattle.node_core.proofs.slots.slot_left.Given as goal

-- so many slots were passed that are free, and no more than are left to others
abbrev pub invariant-loop-number : goal.invariant-loop-number
invariant-loop-number l = Passed l.agreement l.number l.passed × (l.passed ≤ l.left)
