use Rattle.std.proofs.Common.{rules, arith}
use Rattle.std.proofs.lemmas.Grind.{common_steps}
use Rattle.std.proofs.lemmas.Result.{err_from_is_err_and}
use Rattle.proto_fields.specs.Field.{field_at}
use Rattle.proto_messages.specs.Taking.{Takes}
use Rattle.proto_messages.proofs.Merging.{merged_more, fault_behind}
use Rattle.proto_messages.proofs.message.merge.Goals as goal

pub returns-in_err-take-clause-fault : goal.returns-in_err-take-clause-fault
returns-in_err-take-clause-fault g c =
    let p = err_from_is_err_and c.from_residual-in_err-take.result c.from_residual-in_err-take.ensures.1 in
    rw (p.1, p.2) (fault_behind (Takes g.M.ProtoMessage.descriptor) g.M.ProtoMessage.descriptor c.args.bytes.now c.loop-rest.rest.now c.in_ok-number.after.now (field_at c.in_ok-number.number c.in_ok-number.content) _ _ _ c.loop-rest.invariant c.in_ok-number.ensures.read c.in_err-take.ensures.fault)

pub loop-rest-preserved : goal.loop-rest-preserved
loop-rest-preserved g c =
    merged_more (Takes g.M.ProtoMessage.descriptor) c.args.bytes.now c.loop-rest.rest.now c.in_ok-number.after.now (field_at c.in_ok-number.number c.in_ok-number.content) _ _ _ c.loop-rest.invariant c.in_ok-number.ensures.read c.in_ok-take.ensures.taken

pub returns-in_err-number-clause-merged : goal.returns-in_err-number-clause-merged
returns-in_err-number-clause-merged g c = search rules steps 300000

pub returns-in_err-number-clause-fault : goal.returns-in_err-number-clause-fault
returns-in_err-number-clause-fault g c = search rules steps 300000

pub returns-in_err-take-clause-merged : goal.returns-in_err-take-clause-merged
returns-in_err-take-clause-merged g c = search rules steps 300000

pub returns-clause-merged : goal.returns-clause-merged
returns-clause-merged g c = grind (arith, common_steps) steps 600000

pub returns-clause-fault : goal.returns-clause-fault
returns-clause-fault g c = search rules steps 300000
