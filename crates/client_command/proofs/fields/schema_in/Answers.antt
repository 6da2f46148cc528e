use Rattle.client_command.proofs.Shown.{message_says}
use Rattle.client_command.proofs.fields.schema_in.Goals as goal

pub returns-in-Some : goal.returns-in-Some
returns-in-Some c =
    message_says c.args.bytes.now c.in-Some.message.now c.shown_schema.result c.in-Some.ensures c.shown_schema.ensures
