use Rattle.std.proofs.Common.{rules}
use Rattle.proto_fields.proofs.field.ContentRef.to_content.Goals as goal

pub returns-in_err-from_slice-in-Bytes : goal.returns-in_err-from_slice-in-Bytes
returns-in_err-from_slice-in-Bytes c = search rules steps 300000

pub returns : goal.returns
returns c = search rules steps 300000
