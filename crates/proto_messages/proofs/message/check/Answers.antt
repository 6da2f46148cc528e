use Rattle.std.proofs.Common.{[], ◌∷◌, ◌++◌, refl, subst, inr, rules}
use Rattle.std.proofs.lemmas.Result.{err_from_is_err_and}
use Rattle.proto_fields.specs.Field.{FieldsThen, field_at}
use Rattle.proto_fields.proofs.Fronts.{fields_push, is_over}
use Rattle.proto_messages.proofs.Sound.{sound_push, no_text_fault}
use Rattle.proto_messages.proofs.message.check.Goals as goal

pub loop-left-init : goal.loop-left-init
loop-left-init g c = ([], refl, tt)

pub loop-left-preserved : goal.loop-left-preserved
loop-left-preserved g c =
    let f = field_at c.in_ok-number.number c.in_ok-number.content in (
      c.loop-left.invariant.0 ++ f ∷ [],
      fields_push c.args.bytes.now c.loop-left.invariant.0 c.loop-left.left.now f c.in_ok-number.after.now c.loop-left.invariant.1 c.in_ok-number.ensures.read,
      sound_push g.M.ProtoMessage.descriptor c.loop-left.invariant.0 f c.loop-left.invariant.2 c.in_ok-check_field.ensures.ok,
    )

pub returns-in_err-check_field-clause-fault : goal.returns-in_err-check_field-clause-fault
returns-in_err-check_field-clause-fault g c =
    let f = field_at c.in_ok-number.number c.in_ok-number.content in
    let p = err_from_is_err_and c.from_residual-in_err-check_field.result c.from_residual-in_err-check_field.ensures.1 in
    rw (p.1, p.2) (inr (
      c.loop-left.invariant.0,
      f,
      c.in_ok-number.after.now,
      fields_push c.args.bytes.now c.loop-left.invariant.0 c.loop-left.left.now f c.in_ok-number.after.now c.loop-left.invariant.1 c.in_ok-number.ensures.read,
      c.in_err-check_field.ensures.fault,
    ))

pub returns-clause-ok : goal.returns-clause-ok
returns-clause-ok g c =
    let over = is_over c.is_empty.result c.loop-left.left.now c.is_empty.ensures c.loop-left-test.false in
    no_text_fault g.M.ProtoMessage.descriptor c.args.bytes.now c.loop-left.invariant.0 (subst (FieldsThen c.args.bytes.now c.loop-left.invariant.0) over c.loop-left.invariant.1) c.loop-left.invariant.2

pub returns-in_err-number-clause-ok : goal.returns-in_err-number-clause-ok
returns-in_err-number-clause-ok g c = search rules steps 300000

pub returns-in_err-number-clause-fault : goal.returns-in_err-number-clause-fault
returns-in_err-number-clause-fault g c = search rules steps 300000

pub returns-in_err-check_field-clause-ok : goal.returns-in_err-check_field-clause-ok
returns-in_err-check_field-clause-ok g c = search rules steps 300000

pub returns-clause-fault : goal.returns-clause-fault
returns-clause-fault g c = search rules steps 300000
