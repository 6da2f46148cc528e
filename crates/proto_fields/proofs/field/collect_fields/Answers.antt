use Rattle.std.proofs.Common.{rules, arith}
use Rattle.std.proofs.lemmas.Grind.{common_steps}
use Rattle.proto_fields.specs.Field.{fields_of, field_at}
use Rattle.proto_fields.proofs.Fronts.{fields_push}
use Rattle.proto_fields.proofs.field.collect_fields.Goals as goal

pub loop-rest-preserved : goal.loop-rest-preserved
loop-rest-preserved c =
    rw c.in_ok-push_field.ensures.ok (fields_push c.args.bytes.now (fields_of c.loop-rest.fields.items) c.loop-rest.rest.now (field_at c.in_ok-number.number c.in_ok-number.content) c.in_ok-number.after.now c.loop-rest.invariant c.in_ok-number.ensures.read)

pub returns-in_err-number-clause-read : goal.returns-in_err-number-clause-read
returns-in_err-number-clause-read c = search rules steps 300000

pub returns-in_err-number-clause-fault : goal.returns-in_err-number-clause-fault
returns-in_err-number-clause-fault c = search rules steps 300000

pub returns-in_err-push_field-clause-read : goal.returns-in_err-push_field-clause-read
returns-in_err-push_field-clause-read c = grind (arith, common_steps) steps 600000

pub returns-in_err-push_field-clause-fault : goal.returns-in_err-push_field-clause-fault
returns-in_err-push_field-clause-fault c = grind (arith, common_steps) steps 600000

pub returns-clause-read : goal.returns-clause-read
returns-clause-read c = grind (arith, common_steps) steps 600000

pub returns-clause-fault : goal.returns-clause-fault
returns-clause-fault c = search rules steps 300000
