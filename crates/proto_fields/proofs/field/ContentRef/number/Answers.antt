use Rattle.std.proofs.Common.{rules}
use Rattle.proto_fields.proofs.field.ContentRef.number.Goals as goal

pub returns-in-Varint : goal.returns-in-Varint
returns-in-Varint c = search rules steps 300000

pub returns-in_default : goal.returns-in_default
returns-in_default c = search rules steps 300000
