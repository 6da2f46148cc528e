use Rattle.std.specs.Prelude.{take}
use Rattle.lawful_histories.specs.Lawful.{IsLawful}
use Rattle.run_breaches.proofs.finding.first_breach.Given as goal

abbrev pub invariant-loop-place : goal.invariant-loop-place
invariant-loop-place l = IsLawful l.members (take l.place l.sent)
