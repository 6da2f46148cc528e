use Rattle.downloads.proofs.Said.{no_schema, schema_said}
use Rattle.downloads.proofs.schema_message.schema_in.Goals as goal

pub returns-in_default : goal.returns-in_default
returns-in_default c = no_schema c.args.message.now c.in_ok-parts.field-0 c.in_default.is c.in_ok-parts.ensures

pub returns : goal.returns
returns c =
    schema_said c.args.message.now c.in_ok-parts.field-0 c.in-Some.parts c.in-Some.is c.in_ok-parts.ensures c.schema_of_parts.result c.schema_of_parts.ensures
