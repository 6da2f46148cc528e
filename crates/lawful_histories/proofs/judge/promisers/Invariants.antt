use Rattle.std.specs.Prelude.{take}
use Rattle.lawful_histories.specs.Judging.{IsSetOf, HasPromised}
use Rattle.lawful_histories.proofs.judge.promisers.Given as goal

abbrev pub invariant-loop-place : goal.invariant-loop-place
invariant-loop-place l = IsSetOf l.nodes (HasPromised l.slot (take l.place l.before) l.ballot l.bound)
