use Rattle.header_writing.specs.Canonical.{schema_object}
use Rattle.header_types.specs.Views.{schema_of}
use Rattle.header_writing.proofs.Writers.{message_put}
use Rattle.header_writing.proofs.write.schema_text.Goals as goal

pub returns-clause-written : goal.returns-clause-written
returns-clause-written c =
    message_put c.put_message.new.text.items c.put_schema.new.text.items c.pad.new.text.items 1 0 c.in_ok-header.header
    (schema_object (schema_of c.args.schema.now))
    c.in_ok-header.ensures.begun c.in_ok-header.ensures.header c.in_ok-put_schema.ensures.put c.in_ok-pad.ensures.padded
