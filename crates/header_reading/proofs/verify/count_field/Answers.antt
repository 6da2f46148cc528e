use Rattle.header_types.specs.declared.fault.MetaFault.{MetaFault}
use Rattle.header_reading.specs.VectorRefs.{vector_ref_of}
use Rattle.header_types.specs.Totals.{totals_of}
use Rattle.header_reading.specs.FieldRefView.{field_view}
use Rattle.header_reading.specs.Walking.{FieldEnd}
use Rattle.header_reading.proofs.SlotFacts.{handed_on}
use Rattle.header_reading.proofs.Walking.{field_fault, field_too_much}
use Rattle.header_reading.proofs.verify.count_field.Goals as goal

pub returns-in_err-field-clause-ends : goal.returns-in_err-field-clause-ends
returns-in_err-field-clause-ends c =
    let e : MetaFault = c.in_err-field.field-0.0 in
    handed_on (FieldEnd c.args.buf.now c.args.table (totals_of c.args.seen)) c.from_residual.result e
    c.from_residual.ensures.1
    (field_fault c.args.buf.now c.args.table (totals_of c.args.seen) e c.in_err-field.ensures.fault)

pub returns-in_err-seen-clause-ends : goal.returns-in_err-seen-clause-ends
returns-in_err-seen-clause-ends c =
    let e : MetaFault = c.in_err-seen.field-0.0 in
    handed_on (FieldEnd c.args.buf.now c.args.table (totals_of c.args.seen)) c.from_residual-in_err-seen.result e
    c.from_residual-in_err-seen.ensures.1
    (field_too_much c.args.buf.now c.args.table (field_view c.in_ok-field.field)
    (vector_ref_of c.in_ok-field.field.children) (vector_ref_of c.in_ok-field.field.metadata)
    (totals_of c.args.seen) e c.in_ok-field.ensures.read c.in_err-seen.ensures.beyond c.in_err-seen.ensures.more)
