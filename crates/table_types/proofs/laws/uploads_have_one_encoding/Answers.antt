use Rattle.table_types.proofs.OneEncoding.{one_upload}
use Rattle.table_types.proofs.laws.uploads_have_one_encoding.Goals as goal

pub returns : goal.returns
returns c =
    one_upload c.written_rows_are_laid_out.ensures.laid c.written_headers_differ.ensures c.batches_are_one.ensures.batch c.canonical_messages_are_one.ensures
