use Rattle.downloads.proofs.Apart.{one_schema, one_upload, apart}
use Rattle.downloads.proofs.laws.messages_are_one.Goals as goal

pub returns-clause-schema : goal.returns-clause-schema
returns-clause-schema c = one_schema c.canonical_messages_are_one.ensures c.written_headers_differ.ensures

pub returns-clause-upload : goal.returns-clause-upload
returns-clause-upload c =
    one_upload c.canonical_messages_are_one.ensures c.written_headers_differ.ensures c.batches_have_headers.ensures c.written_rows_are_laid_out.ensures.laid
    c.batches_are_one.ensures.batch

pub returns-clause-apart : goal.returns-clause-apart
returns-clause-apart c = apart c.canonical_messages_are_one.ensures
