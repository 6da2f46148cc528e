use Rattle.std.proofs.lemmas.Result.{err_from_is_err_and}
use Rattle.header_types.specs.Views.{schema_of}
use Rattle.uploads.proofs.Decoded.{no_upload, no_schema_text, no_batches_text, is_upload_text, on_ok, if_err}
use Rattle.uploads.proofs.decoding.check_upload.Goals as goal

pub returns-in_default-clause-fault : goal.returns-in_default-clause-fault
returns-in_default-clause-fault c = λ is. no_upload c.args.text.now c.in_default.ensures.none

pub returns-in_err-schema-clause-fault : goal.returns-in_err-schema-clause-fault
returns-in_err-schema-clause-fault c =
    let p = err_from_is_err_and c.from_residual.result c.from_residual.ensures.1 in
    rw (p.1, p.2)
    (λ is. let parts = c.in-Some.parts in
    no_schema_text c.args.text.now parts.table.now parts.id.now parts.schema.now parts.batches.now c.in-Some.ensures.only (c.in_err-schema.ensures.fault is))

pub returns-clause-ok : goal.returns-clause-ok
returns-clause-ok c =
    let parts = c.in-Some.parts in
    let found = c.in-Some.ensures.some in
    on_ok c.check_batches.result c.check_batches.ensures.ok (λ all.
    let rows = all found.list found.left in
    is_upload_text c.args.text.now parts.table.now parts.id.now parts.schema.now parts.batches.now found (schema_of c.in_ok-schema.schema) c.in_ok-schema.ensures.read rows.0 rows.1)

pub returns-clause-fault : goal.returns-clause-fault
returns-clause-fault c =
    let parts = c.in-Some.parts in
    if_err c.check_batches.result _ _ c.check_batches.ensures.fault (λ fault none is.
    no_batches_text c.args.text.now parts.table.now parts.id.now parts.schema.now parts.batches.now (schema_of c.in_ok-schema.schema) c.in-Some.ensures.only c.in_ok-schema.ensures.only (none is))
