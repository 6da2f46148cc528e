use Rattle.header_types.specs.declared.fault.MetaFault.{MetaFault}
use Rattle.header_reading.specs.VectorRefs.{vector_ref_of}
use Rattle.header_types.specs.Totals.{totals_of}
use Rattle.header_reading.specs.Faults.{SchemaFault}
use Rattle.header_reading.proofs.SlotFacts.{handed_on}
use Rattle.header_reading.proofs.Walking.{vector_inside}
use Rattle.header_reading.proofs.Building.{verify_refused, entries_too_many, schema_shown}
use Rattle.header_reading.proofs.verify.verify_schema.Goals as goal

pub verify_fields-requires-clause-inside : goal.verify_fields-requires-clause-inside
verify_fields-requires-clause-inside c =
    vector_inside c.args.buf.now c.args.table 1 4
    (vector_ref_of c.in_ok-parts.parts.fields) c.in_ok-parts.ensures.parts.fields_shown

pub returns-in_err-seen-clause-fault : goal.returns-in_err-seen-clause-fault
returns-in_err-seen-clause-fault c =
    let e : MetaFault = c.in_err-seen.field-0.0 in
    handed_on (SchemaFault c.args.buf.now c.args.table) c.from_residual-in_err-seen.result e
    c.from_residual-in_err-seen.ensures.1
    (verify_refused c.args.buf.now c.args.table (vector_ref_of c.in_ok-parts.parts.fields)
    (vector_ref_of c.in_ok-parts.parts.metadata) e
    c.in_ok-parts.ensures.parts.fields_shown c.in_ok-parts.ensures.parts.metadata_shown c.in_err-seen.ensures.ends)

pub verify_entries-requires-clause-inside : goal.verify_entries-requires-clause-inside
verify_entries-requires-clause-inside c =
    vector_inside c.args.buf.now c.args.table 2 4
    (vector_ref_of c.in_ok-parts.parts.metadata) c.in_ok-parts.ensures.parts.metadata_shown

pub returns-in_err-verify_entries-clause-fault : goal.returns-in_err-verify_entries-clause-fault
returns-in_err-verify_entries-clause-fault c =
    let e : MetaFault = c.in_err-verify_entries.field-0.0 in
    handed_on (SchemaFault c.args.buf.now c.args.table) c.from_residual-in_err-verify_entries.result e
    c.from_residual-in_err-verify_entries.ensures.1
    (entries_too_many c.args.buf.now c.args.table (vector_ref_of c.in_ok-parts.parts.fields)
    (vector_ref_of c.in_ok-parts.parts.metadata) (totals_of c.in_ok-seen.seen) e
    c.in_ok-parts.ensures.parts.fields_shown c.in_ok-parts.ensures.parts.metadata_shown c.in_ok-seen.ensures.passes
    c.in_err-verify_entries.ensures.ends)

pub returns-clause-shown : goal.returns-clause-shown
returns-clause-shown c =
    let all =
    schema_shown c.args.buf.now c.args.table (vector_ref_of c.in_ok-parts.parts.fields)
    (vector_ref_of c.in_ok-parts.parts.metadata) (totals_of c.in_ok-seen.seen)
    (totals_of c.in_ok-verify_entries.field-0)
    c.in_ok-parts.ensures.parts.little_endian c.in_ok-parts.ensures.parts.fields_shown
    c.in_ok-parts.ensures.parts.metadata_shown
    c.in_ok-seen.ensures.passes c.in_ok-verify_entries.ensures.passes c.in_ok-verify_entries.ensures.within in
    (all.schema, all.shown)
