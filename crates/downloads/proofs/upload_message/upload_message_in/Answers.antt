use Rattle.header_types.specs.Views.{schema_of}
use Rattle.downloads.proofs.Said.{no_upload, unnamed, upload_said}
use Rattle.downloads.proofs.upload_message.upload_message_in.Goals as goal

pub returns-in_default : goal.returns-in_default
returns-in_default c =
    no_upload (schema_of c.args.schema.now) c.args.message.now c.in_ok-parts.field-0 c.in_default.is c.in_ok-parts.ensures

pub returns-in_default-id_in : goal.returns-in_default-id_in
returns-in_default-id_in c =
    unnamed c.args.message.now c.in_ok-parts.field-0 c.in-Some.parts c.in-Some.is c.in_ok-parts.ensures c.in_default-id_in.ensures.none (schema_of c.args.schema.now)

pub returns : goal.returns
returns c =
    upload_said c.args.message.now c.in_ok-parts.field-0 c.in-Some.parts c.in-Some.is c.in_ok-parts.ensures (schema_of c.args.schema.now) c.in-Some-id_in.id
    c.in-Some-id_in.ensures.some c.upload_of_parts.result c.upload_of_parts.ensures
