use Rattle.std.proofs.Common.{sym, ap, subst, ◌∙◌, length, ◌≤◌}
use Rattle.header_types.specs.Header.{batch_header}
use Rattle.header_types.specs.Views.{schema_of}
use Rattle.flatbuf_meta.specs.Writable.{IsWritable}
use Rattle.batch_columns.specs.Batches.{rows_of}
use Rattle.header_writing.specs.Canonical.{header_text}
use Rattle.table_types.specs.Valid.{upload_limit}
use Rattle.uploads.proofs.Shown.{equal_bytes, if_ok, rows_written}
use Rattle.uploads.proofs.reading.is_written_so.Goals as goal

pub is_head_text-requires : goal.is_head_text-requires
is_head_text-requires c =
    let same = equal_bytes c.as_slice.result.now c.args.body.now c.ne.result c.ne.ensures c.if-ne.false in
    let body = sym c.in_ok-head.ensures.body ∙ sym c.as_slice.ensures.value ∙ same in
    record {
      writable =
          subst (λ h. IsWritable (batch_header h)) (sym c.in_ok-head.ensures.head)
          (c.batches_have_headers.ensures (schema_of c.args.schema.now) (rows_of c.args.batch.now) c.requires.profile c.in_ok-head.ensures.room
          (subst (λ l. length l ≤ upload_limit) (sym body) c.requires.short));
    }

pub returns : goal.returns
returns c =
    let same = equal_bytes c.as_slice.result.now c.args.body.now c.ne.result c.ne.ensures c.if-ne.false in
    let body = sym c.in_ok-head.ensures.body ∙ sym c.as_slice.ensures.value ∙ same in
    if_ok c.is_head_text.result _ _
    (λ is both. rows_written (schema_of c.args.schema.now) c.args.header.now c.args.body.now (rows_of c.args.batch.now) is _ c.in_ok-head.ensures.room c.in_ok-head.ensures.head (sym body) both)
    c.is_head_text.ensures
