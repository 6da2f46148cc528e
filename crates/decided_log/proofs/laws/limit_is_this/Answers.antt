use Rattle.std.proofs.Common.{refl}
use Rattle.decided_log.proofs.laws.limit_is_this.Goals as goal

pub returns : goal.returns
returns c = record { asked = (refl, refl) }
