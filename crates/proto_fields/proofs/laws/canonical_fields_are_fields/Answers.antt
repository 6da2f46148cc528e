use Rattle.proto_fields.proofs.Texts.{fields_text-encodes}
use Rattle.proto_fields.proofs.laws.canonical_fields_are_fields.Goals as goal

pub returns : goal.returns
returns c = fields_text-encodes
