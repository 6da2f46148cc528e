use Rattle.header_types.specs.declared.fault.MetaFault.{MetaFault}
use Rattle.header_reading.specs.VectorRefs.{vector_ref_of}
use Rattle.header_types.specs.Totals.{totals_of}
use Rattle.header_reading.specs.FieldRefView.{field_view}
use Rattle.header_reading.specs.Walking.{FieldEnd}
use Rattle.header_reading.proofs.SlotFacts.{handed_on}
use Rattle.header_reading.proofs.Walking.{vector_inside, field_ends}
use Rattle.header_reading.proofs.verify.verify_field.Goals as goal

pub verify_entries-requires-clause-inside : goal.verify_entries-requires-clause-inside
verify_entries-requires-clause-inside c =
    vector_inside c.args.buf.now c.args.table 6 4
    (vector_ref_of c.in_ok-field.field.metadata) c.in_ok-field.ensures.read.metadata_shown

pub returns-in_err-seen-clause-ends : goal.returns-in_err-seen-clause-ends
returns-in_err-seen-clause-ends c =
    let e : MetaFault = c.in_err-seen.field-0.0 in
    handed_on (FieldEnd c.args.buf.now c.args.table (totals_of c.args.seen)) c.from_residual-in_err-seen.result e
    c.from_residual-in_err-seen.ensures.1
    (field_ends c.args.buf.now c.args.table (field_view c.in_ok-field.field)
    (vector_ref_of c.in_ok-field.field.children) (vector_ref_of c.in_ok-field.field.metadata)
    (totals_of c.args.seen) (totals_of c.in_ok-field.seen) e c.in_ok-field.ensures.read c.in_ok-field.ensures.added
    c.in_err-seen.ensures.ends)

pub returns-clause-inside : goal.returns-clause-inside
returns-clause-inside c =
    vector_inside c.args.buf.now c.args.table 5 4
    (vector_ref_of c.in_ok-field.field.children) c.in_ok-field.ensures.read.children_shown
