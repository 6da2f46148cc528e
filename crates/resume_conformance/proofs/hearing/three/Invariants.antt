use Rattle.std.proofs.Common.{◌≡◌, [], length}
use Rattle.resumed_nodes.specs.Starting.{AreStarted}
use Rattle.resume_conformance.proofs.hearing.three.Given as goal

-- so many have started, each at the place of its number
abbrev pub invariant-loop-number : goal.invariant-loop-number
invariant-loop-number g l = (length l.nodes.items ≡ l.number) × AreStarted l.config [] l.nodes.items
