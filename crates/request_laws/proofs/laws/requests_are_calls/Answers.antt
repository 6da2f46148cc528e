use Rattle.request_laws.proofs.Messages.{asks_for_table, asks_for_version, brings, batches_fit}
use Rattle.request_laws.proofs.Calls.{info_is, get_is, put_is}
use Rattle.request_laws.proofs.Sizes.{opening_fits_frame}
use Rattle.request_laws.proofs.laws.requests_are_calls.Goals as goal

pub returns-clause-info : goal.returns-clause-info
returns-clause-info c table rest named = info_is table rest named (asks_for_table c.canonical_messages_are_messages.ensures table named)

pub returns-clause-get : goal.returns-clause-get
returns-clause-get c asked rest is =
    get_is asked rest is
    (asks_for_version c.canonical_messages_are_messages.ensures asked is (c.tickets_have_one_encoding.ensures.each asked is))

pub returns-clause-put : goal.returns-clause-put
returns-clause-put c upload rest taken =
    let digits = c.descriptors_name_one.ensures.digits upload.id taken.named in
    put_is upload rest taken
    (opening_fits_frame upload taken digits (c.written_schemas_are_short.ensures upload.schema taken.profile))
    (brings c.canonical_messages_are_messages.ensures c.written_headers_are_shown.ensures c.batches_have_headers.ensures
    c.written_rows_are_laid_out.ensures.laid upload taken digits (batches_fit upload taken))
