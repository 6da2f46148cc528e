use Rattle.std.specs.Prelude.{take}
use Rattle.std.specs.List.{Any}
use Rattle.lawful_histories.specs.Judging.{IsSetOf}
use Rattle.run_breaches.specs.Earlier.{Accepts}
use Rattle.run_breaches.proofs.searches.acceptors_of.Given as goal

abbrev pub invariant-loop-place : goal.invariant-loop-place
invariant-loop-place l = IsSetOf l.nodes (λ a. Any (Accepts l.slot l.ballot l.value a) (take l.place l.before))
