use Rattle.std.proofs.Common.{refl, arith, subst}
use Rattle.header_types.specs.Views.{schema_of}
use Rattle.table_types.specs.Valid.{IsUpload}
use Rattle.uploads.specs.Making.{upload_of}
use Rattle.uploads.proofs.Counts.{small_short, is_id, is_upload}
use Rattle.uploads.proofs.making.encode_upload.Goals as goal

pub written_upload-requires-clause-short : goal.written_upload-requires-clause-short
written_upload-requires-clause-short c =
    small_short c.as_bytes-name.result.now c.args.id.now (schema_of c.args.schema.now) c.args.batches.now (c.if-not-is_table_name.ensures.0 refl).some c.told-id
    c.in-Some.ensures.small

pub returns-clause-upload : goal.returns-clause-upload
returns-clause-upload c =
    subst (λ table. IsUpload (upload_of table c.args.id.now (schema_of c.args.schema.now) c.args.batches.now)) c.as_bytes-name.ensures.value
    (is_upload c.as_bytes-name.result.now c.args.id.now (schema_of c.args.schema.now) c.args.batches.now (c.if-not-is_table_name.ensures.0 refl)
    (is_id c.args.id.now c.told-id c.fits-id) (omega (arith, c.if-batches-gt-MAX_UPLOAD_BATCHES.false)) (c.if-not-are_of_schema.ensures.0 refl).profile
    c.in_ok-text.ensures.fits c.in-Some.ensures.can c.in-Some.ensures.small)
