use Rattle.std.proofs.Common.{rules}
use Rattle.proto_fields.proofs.scalar.int64_of.Goals as goal

pub returns-in-Varint-clause-read : goal.returns-in-Varint-clause-read
returns-in-Varint-clause-read c = search rules steps 300000

pub returns-in-Varint-clause-fault : goal.returns-in-Varint-clause-fault
returns-in-Varint-clause-fault c = search rules steps 300000

pub returns-in_default : goal.returns-in_default
returns-in_default c = search rules steps 300000
