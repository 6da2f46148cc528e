use Rattle.std.specs.Prelude.{take}
use Rattle.run_breaches.specs.Highest.{IsBestOf}
use Rattle.run_breaches.proofs.searches.highest_report.Given as goal

abbrev pub invariant-loop-place : goal.invariant-loop-place
invariant-loop-place l = IsBestOf l.members l.slot (take l.place l.before) l.ballot l.best
