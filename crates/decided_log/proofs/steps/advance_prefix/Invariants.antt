use Rattle.std.proofs.Common.{◌≡◌, ◌≤◌, length, vec_capacity}
use Rattle.indexmap.specs.IndexMap.{spare}
use Rattle.decided_log.specs.Keeping.{IsJoinable, Joins}
use Rattle.decided_log.proofs.steps.advance_prefix.Given as goal

abbrev pub invariant-loop : goal.invariant-loop
invariant-loop l = record {
  joinable : IsJoinable l.prefix.items l.later.entries (vec_capacity l.prefix);
  joins : Joins l.initial.prefix.items l.prefix.items l.initial.later.entries l.later.entries;
  capacity : vec_capacity l.prefix ≡ vec_capacity l.initial.prefix;
  room : spare l.initial.later ≤ spare l.later;
}

abbrev pub decreases-loop : goal.decreases-loop
decreases-loop l = length l.later.entries
