use Rattle.std.specs.Prelude.{take}
use Rattle.std.specs.List.{Any}
use Rattle.lawful_histories.specs.Judging.{IsSetOf}
use Rattle.run_breaches.specs.Earlier.{Promises, IsWithin}
use Rattle.run_breaches.proofs.searches.promisers.Given as goal

abbrev pub invariant-loop-place : goal.invariant-loop-place
invariant-loop-place l = IsSetOf l.nodes (λ a. Any (Promises l.slot l.ballot (IsWithin l.bound) a) (take l.place l.before))
