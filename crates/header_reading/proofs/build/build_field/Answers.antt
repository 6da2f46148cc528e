use Rattle.std.proofs.Common.{◌≡◌, ◌⊎◌, inr}
use Rattle.header_types.specs.declared.fault.MetaFault.{MetaFault}
use Rattle.header_types.specs.declared.fault.MetaFault.TheVariants.{OutOfMemory}
use Rattle.header_reading.specs.VectorRefs.{vector_ref_of}
use Rattle.header_types.specs.Totals.{totals_of}
use Rattle.header_reading.specs.FieldRefView.{field_view}
use Rattle.header_reading.specs.Walking.{FieldEnd}
use Rattle.header_reading.proofs.SlotFacts.{handed_on}
use Rattle.header_reading.proofs.Walking.{vector_inside, field_passes, field_ends}
use Rattle.header_reading.proofs.Building.{or_memory}
use Rattle.header_reading.proofs.build.build_field.Goals as goal

pub returns-in_err-field-clause-ends : goal.returns-in_err-field-clause-ends
returns-in_err-field-clause-ends c =
    let e : MetaFault = c.in_err-field.field-0.0 in
    handed_on (λ e. (e ≡ OutOfMemory) ⊎ FieldEnd c.args.buf.now c.args.table (totals_of c.args.seen) e)
    c.from_residual.result e c.from_residual.ensures.1
    (inr c.in_err-field.ensures.ends)

pub build_entries-requires-clause-inside : goal.build_entries-requires-clause-inside
build_entries-requires-clause-inside c =
    vector_inside c.args.buf.now c.args.table 6 4
    (vector_ref_of c.in_ok-field.field.metadata) c.in_ok-field.ensures.read.metadata_shown

pub returns-in_err-metadata-clause-ends : goal.returns-in_err-metadata-clause-ends
returns-in_err-metadata-clause-ends c =
    let e : MetaFault = c.in_err-metadata.field-0.0 in
    handed_on (λ e. (e ≡ OutOfMemory) ⊎ FieldEnd c.args.buf.now c.args.table (totals_of c.args.seen) e)
    c.from_residual-in_err-metadata.result e c.from_residual-in_err-metadata.ensures.1
    (or_memory e (field_ends c.args.buf.now c.args.table (field_view c.in_ok-field.field)
    (vector_ref_of c.in_ok-field.field.children) (vector_ref_of c.in_ok-field.field.metadata)
    (totals_of c.args.seen) (totals_of c.in_ok-field.seen) e c.in_ok-field.ensures.read c.in_ok-field.ensures.added)
    c.in_err-metadata.ensures.ends)

pub returns-clause-inside : goal.returns-clause-inside
returns-clause-inside c =
    vector_inside c.args.buf.now c.args.table 5 4
    (vector_ref_of c.in_ok-field.field.children) c.in_ok-field.ensures.read.children_shown

pub returns-clause-passes : goal.returns-clause-passes
returns-clause-passes c =
    field_passes c.args.buf.now c.args.table (field_view c.in_ok-field.field)
    (vector_ref_of c.in_ok-field.field.children) (vector_ref_of c.in_ok-field.field.metadata)
    (totals_of c.args.seen) (totals_of c.in_ok-field.seen) (totals_of c.in_ok-metadata.seen)
    c.in_ok-field.ensures.read c.in_ok-field.ensures.added c.in_ok-metadata.ensures.passes
