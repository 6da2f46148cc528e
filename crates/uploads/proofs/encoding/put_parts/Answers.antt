use Rattle.std.proofs.Common.{refl, arith, ◌+◌}
use Rattle.batch_types.specs.Canonical.{canonical_body}
use Rattle.batch_columns.specs.Batches.{rows_of}
use Rattle.uploads.proofs.Counts.{batch_text_size}
use Rattle.uploads.proofs.Puts.{on_ok, batch_put}
use Rattle.uploads.proofs.encoding.put_parts.Goals as goal

pub returns : goal.returns
returns c =
    on_ok c.put_body.result c.put_body.ensures (λ last schema of_schema long.
    let body = canonical_body schema (rows_of c.args.batch.now) in
    batch_put c.args.text.now.items c.put_body.new.text.items (c.field_length.result + c.field_length-2.result) c.args.header.now body
    c.append_number.new.out.items c.append_number-2.new.out.items c.write_nonempty_bytes.new.out.items
    (omega (arith, c.field_length.ensures.long c.args.header.now refl, c.field_length-2.ensures.long body long, batch_text_size (c.args.header.now, body)))
    c.in_ok-append_number.ensures.ok c.in_ok-append_number-2.ensures.ok c.in_ok-write_nonempty_bytes.ensures.ok (last schema of_schema long))
