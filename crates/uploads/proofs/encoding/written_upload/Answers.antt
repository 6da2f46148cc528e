use Rattle.header_types.specs.Views.{schema_of}
use Rattle.uploads.proofs.Puts.{upload_put}
use Rattle.uploads.proofs.encoding.written_upload.Goals as goal

pub returns-clause-written : goal.returns-clause-written
returns-clause-written c =
    upload_put c.args.table.now c.args.id.now (schema_of c.args.schema.now) c.args.batches.now c.in_ok-text.text.items c.write_bytes.new.out.items
    c.write_bytes-2.new.out.items c.put_schema.new.text.items c.put_batches.new.text.items c.requires.named.some c.requires.id
    c.in_ok-text.ensures.items c.in_ok-write_bytes.ensures.ok c.in_ok-write_bytes-2.ensures.ok c.in_ok-put_schema.ensures.put c.in_ok-put_batches.ensures
