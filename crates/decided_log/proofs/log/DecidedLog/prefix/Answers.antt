use Rattle.decided_log.proofs.Gaining.{kept_prefix}
use Rattle.decided_log.proofs.log.DecidedLog.prefix.Goals as goal

pub returns : goal.returns
returns c = rw (← c.self.view_is, c.as_slice.ensures.value) (kept_prefix c.self.inside.prefix.items c.self.inside.later.entries _ c.self.invariant)
