use Rattle.std.proofs.Common.{arith}
use Rattle.serve_command.proofs.Standing.{at_start}
use Rattle.serve_command.proofs.serving.serve_restarted.Goals as goal

pub nodes_again-requires : goal.nodes_again-requires
nodes_again-requires g c = (omega arith, at_start c.args.config g.J.Beginning.start c.args.old.items c.args.told.items c.requires.start c.requires.stand)

pub nodes_again-requires-in-5 : goal.nodes_again-requires-in-5
nodes_again-requires-in-5 g c = (omega arith, at_start c.args.config g.J.Beginning.start c.args.old.items c.args.told.items c.requires.start c.requires.stand)
