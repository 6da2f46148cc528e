use Rattle.std.proofs.Common.{◌≡◌, ◌≤◌}
use Rattle.ballots.specs.Majority.{tally, contains}
use Rattle.ballots.proofs.members.Members.count_in.Given as goal

-- so many of the first members are in the set
abbrev pub invariant-loop-number : goal.invariant-loop-number
invariant-loop-number l = (l.count ≡ tally l.number (contains l.set-inside.has)) × (l.count ≤ l.number)
