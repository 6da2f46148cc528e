use Rattle.std.proofs.Common.{[]}
use Rattle.resumed_nodes.specs.Starting.{AreStarted}
use Rattle.serve_command.proofs.restarting.restarted.Given as goal

abbrev pub invariant-loop-number : goal.invariant-loop-number
invariant-loop-number g l = AreStarted l.agreed [] l.nodes.items
