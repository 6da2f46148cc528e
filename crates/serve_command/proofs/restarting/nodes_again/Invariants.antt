use Rattle.serve_command.specs.Restarting.{AreAtStart}
use Rattle.serve_command.proofs.restarting.nodes_again.Given as goal

abbrev pub invariant-loop : goal.invariant-loop
invariant-loop g l = AreAtStart l.config g.J.Beginning.start l.nodes.items
