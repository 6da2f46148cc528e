use Rattle.decided_log.proofs.Gaining.{known_behind}
use Rattle.decided_log.proofs.log.DecidedLog.has_gap.Goals as goal

pub returns : goal.returns
returns c =
    rw (← c.self.view_is)
    (known_behind c.self.inside.prefix.items c.self.inside.later.entries _ c.is_empty.result c.self.invariant c.is_empty.ensures)
