use Rattle.flatbuf_meta.proofs.WrittenLaws.{written_differ}
use Rattle.flatbuf_meta.proofs.laws.written_headers_differ.Goals as goal

pub returns : goal.returns
returns c = written_differ
