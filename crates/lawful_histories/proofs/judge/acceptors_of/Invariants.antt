use Rattle.std.specs.Prelude.{take}
use Rattle.lawful_histories.specs.Judging.{IsSetOf, HasAccepted}
use Rattle.lawful_histories.proofs.judge.acceptors_of.Given as goal

abbrev pub invariant-loop-place : goal.invariant-loop-place
invariant-loop-place l = IsSetOf l.nodes (HasAccepted l.slot (take l.place l.before) l.ballot l.value)
