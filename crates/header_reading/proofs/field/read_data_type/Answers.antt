use Rattle.std.specs.Option.{option_map}
use Rattle.header_reading.proofs.FieldFacts.{data_type_shown, parameters_wrong, type_fault}
use Rattle.header_reading.proofs.field.read_data_type.Goals as goal

pub returns-in-Some-clause-read : goal.returns-in-Some-clause-read
returns-in-Some-clause-read c =
    data_type_shown c.args.table.now.buf c.args.table.now.place c.in_ok-type_id.field-0 c.in_ok-first.first
    c.in_ok-first.second c.in_ok-first.third c.in-Some.ty (option_map (λ bytes. bytes.now) c.in_ok-timezone.timezone)
    c.in_ok-first.ensures.read c.in_ok-timezone.ensures.read c.in-Some.ensures

pub returns-in-None-clause-fault : goal.returns-in-None-clause-fault
returns-in-None-clause-fault c =
    type_fault c.args.table.now.buf c.args.table.now.place c.in_ok-type_id.field-0 c.wrong_type.result
    c.in_ok-type_id.ensures.read
    (c.wrong_type.ensures c.args.table.now.buf c.args.table.now.place
    (parameters_wrong c.args.table.now.buf c.args.table.now.place c.in_ok-type_id.field-0 c.in_ok-first.first
    c.in_ok-first.second c.in_ok-first.third c.in_ok-first.ensures.read c.in-None.ensures))
