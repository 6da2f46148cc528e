use Rattle.std.proofs.Common.{ap}
use Rattle.header_types.specs.HeaderViews.{header_of, head_of}
use Rattle.client_command.proofs.Shown.{batch_says, nothing_says}
use Rattle.client_command.proofs.fields.shown_schema.Goals as goal

pub returns-in-Ok-Batch : goal.returns-in-Ok-Batch
returns-in-Ok-Batch c =
    batch_says c.args.message.now (header_of c.in-Ok-Batch.field-0) (head_of c.in-Ok-Batch.field-0-0) (ap header_of c.in-Ok-Batch.field-0-is) c.in-Ok-Batch.ensures.only

pub returns : goal.returns
returns c = nothing_says c.args.message.now c.in-Err.fault c.fault_of.result c.in-Err.ensures.only c.fault_of.ensures
