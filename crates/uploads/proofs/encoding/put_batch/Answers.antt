use Rattle.std.proofs.Common.{◌≡◌, sym, ap, subst, ◌∙◌, length, arith}
use Rattle.std.proofs.lemmas.Int.{ints}
use Rattle.header_types.specs.Header.{batch_header}
use Rattle.header_types.specs.Views.{schema_of}
use Rattle.header_writing.specs.Canonical.{header_text}
use Rattle.flatbuf_meta.specs.Writable.{IsWritable}
use Rattle.batch_types.specs.Canonical.{canonical_body}
use Rattle.batch_columns.specs.Batches.{rows_of}
use Rattle.uploads.proofs.Puts.{on_ok, same_parts}
use Rattle.uploads.proofs.encoding.put_batch.Goals as goal

pub head_bytes-requires : goal.head_bytes-requires
head_bytes-requires c = record {
  writable =
      subst (λ h. IsWritable (batch_header h)) (sym c.in_ok-head.ensures.head)
      (c.batches_have_headers.ensures (schema_of c.args.schema.now) (rows_of c.args.batch.now) c.requires.profile c.in_ok-head.ensures.room c.requires.short);
}

pub returns : goal.returns
returns c =
    let long : length (canonical_body (schema_of c.args.schema.now) (rows_of c.args.batch.now)) ≡ c.unsigned_abs.result =
    omega (arith, ints, ap (λ h. h.body_length) c.in_ok-head.ensures.head, c.unsigned_abs.ensures) in
    on_ok c.put_parts.result c.put_parts.ensures (λ put.
    same_parts c.args.text.now.items c.put_parts.new.text.items c.as_slice.result.now _ _
    (c.as_slice.ensures.value ∙ c.in_ok-header.ensures ∙ ap (λ h. header_text (batch_header h)) c.in_ok-head.ensures.head)
    (put (schema_of c.args.schema.now) c.requires.of_schema long))
