use Rattle.header_writing.proofs.WrittenSizes.{schema_short}
use Rattle.flatbuf_meta.proofs.laws.written_schemas_are_short.Goals as goal

pub returns : goal.returns
returns c = schema_short
