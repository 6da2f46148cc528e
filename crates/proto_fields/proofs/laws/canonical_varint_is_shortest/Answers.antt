use Rattle.proto_fields.proofs.Texts.{varint_text-encodes, varint_text-shortest}
use Rattle.proto_fields.proofs.laws.canonical_varint_is_shortest.Goals as goal

pub returns-clause-encodes : goal.returns-clause-encodes
returns-clause-encodes c = varint_text-encodes

pub returns-clause-shortest : goal.returns-clause-shortest
returns-clause-shortest c = varint_text-shortest
