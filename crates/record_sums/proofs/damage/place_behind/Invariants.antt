use Rattle.std.proofs.Common.{◌≤◌, length}
use Rattle.record_sums.proofs.damage.place_behind.Given as goal

abbrev pub invariant-loop : goal.invariant-loop
invariant-loop l = length l.rest ≤ length l.file
