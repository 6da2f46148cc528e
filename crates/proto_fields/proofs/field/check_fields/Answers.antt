use Rattle.std.proofs.Common.{[], ◌∷◌, ◌++◌, refl, subst}
use Rattle.proto_fields.specs.Field.{FieldsThen, field_at}
use Rattle.proto_fields.proofs.Fronts.{fields_push, is_over}
use Rattle.proto_fields.proofs.FaultsApart.{no_fields_at_fault}
use Rattle.proto_fields.proofs.field.check_fields.Goals as goal

pub loop-left-init : goal.loop-left-init
loop-left-init c = ([], refl)

pub loop-left-preserved : goal.loop-left-preserved
loop-left-preserved c =
    let f = field_at c.in_ok-front.front.0 c.in_ok-front.front.1 in
    (c.loop-left.invariant.0 ++ f ∷ [], fields_push c.args.bytes.now c.loop-left.invariant.0 c.loop-left.left.now f c.in_ok-front.front.2.now c.loop-left.invariant.1 c.in_ok-front.ensures.read)

pub returns-clause-ok : goal.returns-clause-ok
returns-clause-ok c = λ fault stands.
    let over = is_over c.is_empty.result c.loop-left.left.now c.is_empty.ensures c.loop-left-test.false in
    no_fields_at_fault c.args.bytes.now fault c.loop-left.invariant.0 stands (subst (FieldsThen c.args.bytes.now c.loop-left.invariant.0) over c.loop-left.invariant.1)
