use Rattle.std.proofs.Common.{rules}
use Rattle.proto_fields.proofs.field.ContentRef.bytes.Goals as goal

pub returns-in-Bytes : goal.returns-in-Bytes
returns-in-Bytes c = search rules steps 300000

pub returns-in_default : goal.returns-in_default
returns-in_default c = search rules steps 300000
