use Rattle.proto_messages.proofs.Strips.{no_number, other_number, on_none}
use Rattle.proto_messages.proofs.stripping.split_shortest.Goals as goal

pub returns-in_err-rest-in-Ok-clause-none : goal.returns-in_err-rest-in-Ok-clause-none
returns-in_err-rest-in-Ok-clause-none c =
    on_none c.from_residual.result (other_number c.args.bytes.now c.in-Ok.number c.in-Ok.field-0-1.now c.in-Ok.ensures.only c.in_err-rest-in-Ok.ensures)

pub returns-in-Err-clause-none : goal.returns-in-Err-clause-none
returns-in-Err-clause-none c = no_number c.args.bytes.now c.in-Err.ensures.only
