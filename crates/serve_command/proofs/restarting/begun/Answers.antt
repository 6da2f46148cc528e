use Rattle.std.proofs.Common.{subst}
use Rattle.serve_command.specs.Restarting.{AreAtStart}
use Rattle.serve_command.proofs.Standing.{others_at_start}
use Rattle.serve_command.proofs.restarting.begun.Goals as goal

pub returns-in-Some : goal.returns-in-Some
returns-in-Some g c =
    others_at_start c.args.config.now g.J.Beginning.start c.pop.new.self.items c.in-Some.node
    (subst (AreAtStart c.args.config.now g.J.Beginning.start) c.in-Some.ensures.items c.requires)
