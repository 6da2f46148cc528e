use Rattle.std.proofs.lemmas.Result.{err_from_is_err_and}
use Rattle.proto_fields.specs.Field.{field_at}
use Rattle.proto_messages.specs.Taking.{Takes}
use Rattle.proto_messages.proofs.Merging.{merged_more, fault_behind}
use Rattle.proto_wire.specs.Flight.{data_descriptor}
use Rattle.flight_data.proofs.lent.LentFlightData.merge.Goals as goal

pub returns-in_err-take-clause-fault : goal.returns-in_err-take-clause-fault
returns-in_err-take-clause-fault c =
    let p = err_from_is_err_and c.from_residual-in_err-take.result c.from_residual-in_err-take.ensures.1 in
    rw (p.1, p.2) (fault_behind (Takes data_descriptor) data_descriptor c.args.bytes.now c.loop-rest.rest.now c.in_ok-number.after.now (field_at c.in_ok-number.number c.in_ok-number.content) _ _ _ c.loop-rest.invariant c.in_ok-number.ensures.read c.in_err-take.ensures.fault)

pub loop-rest-preserved : goal.loop-rest-preserved
loop-rest-preserved c =
    merged_more (Takes data_descriptor) c.args.bytes.now c.loop-rest.rest.now c.in_ok-number.after.now (field_at c.in_ok-number.number c.in_ok-number.content) _ _ _ c.loop-rest.invariant c.in_ok-number.ensures.read c.in_ok-take.ensures.taken
