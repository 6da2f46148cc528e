use Rattle.flatbuf_meta.proofs.WrittenLaws.{written_shown}
use Rattle.flatbuf_meta.proofs.laws.written_headers_are_shown.Goals as goal

pub returns : goal.returns
returns c = written_shown
