use Rattle.std.proofs.Common.{◌≡◌, length}
use Rattle.proposer.specs.Kept.{from_slot}
use Rattle.proposer.proofs.reports.drop_below.Given as goal

abbrev pub invariant-loop-ahead : goal.invariant-loop-ahead
invariant-loop-ahead l = from_slot l.slot l.ahead.items ≡ from_slot l.slot l.initial.ahead.items

abbrev pub decreases-loop-ahead : goal.decreases-loop-ahead
decreases-loop-ahead l = length l.ahead.items
