use Rattle.std.proofs.Common.{refl, inr}
use Rattle.call_protocol.proofs.method.Method.of_path.Goals as goal

pub returns-in-None-clause-fault : goal.returns-in-None-clause-fault
returns-in-None-clause-fault c = inr (c.in-Some.name.now, c.in-Some.ensures.some, c.in-None.ensures.none, refl)
