use Rattle.std.proofs.Common.{IfNone, Option, Some, None}
use Rattle.cluster_backend.proofs.running.ending_of.Goals as goal

of_none : {A P : Type 0} → P → (r : Option A) → IfNone r P
of_none p None = p
of_none p (Some x) = tt

pub returns-then-leaves : goal.returns-then-leaves
returns-then-leaves g c = of_none (c.leaves.ensures c.if-leaves.true) c.leave.result
