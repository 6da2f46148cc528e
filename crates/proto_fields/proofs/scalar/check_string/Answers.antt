use Rattle.std.proofs.Common.{refl, inr}
use Rattle.proto_fields.proofs.scalar.check_string.Goals as goal

pub returns-in-Err-clause-fault : goal.returns-in-Err-clause-fault
returns-in-Err-clause-fault c = rw c.in-Bytes.is (inr (refl, refl, (c.in-Bytes.bytes.now, refl, c.in-Err.ensures.cases.0)))
