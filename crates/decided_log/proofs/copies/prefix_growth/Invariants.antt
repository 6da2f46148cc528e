use Rattle.std.proofs.Common.{◌≡◌, ℕ, ◌+◌, ◌-◌, ◌<◌, length, slice_get}
use Rattle.ballots.specs.Limits.{max_slot}
use Rattle.decided_log.specs.Keeping.{grown_at}
use Rattle.decided_log.proofs.copies.prefix_growth.Given as goal

abbrev pub invariant-loop-next : goal.invariant-loop-next
invariant-loop-next l = record {
  some : 0 < length l.values.items;
  held : (k : ℕ) → k < length l.values.items → grown_at l.later.entries l.slot l.value k ≡ slice_get l.values.items k;
}

abbrev pub decreases-loop-next : goal.decreases-loop-next
decreases-loop-next l = max_slot + 1 - (l.slot + length l.values.items)
