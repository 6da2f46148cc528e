use Rattle.std.proofs.Common.{◌≡◌, ◌⊎◌, inr}
use Rattle.header_types.specs.declared.fault.MetaFault.{MetaFault}
use Rattle.header_types.specs.declared.fault.MetaFault.TheVariants.{OutOfMemory}
use Rattle.header_reading.specs.VectorRefs.{vector_ref_of}
use Rattle.header_types.specs.Totals.{totals_of}
use Rattle.header_reading.specs.Faults.{SchemaFault}
use Rattle.header_reading.proofs.SlotFacts.{handed_on}
use Rattle.header_reading.proofs.Walking.{vector_inside}
use Rattle.header_reading.proofs.Building.{or_memory, verify_refused, entries_too_many, schema_shown, schema_built}
use Rattle.header_reading.proofs.build.build_schema.Goals as goal

pub returns-in_err-parts-clause-fault : goal.returns-in_err-parts-clause-fault
returns-in_err-parts-clause-fault c =
    let e : MetaFault = c.in_err-parts.field-0.0 in
    handed_on (λ e. (e ≡ OutOfMemory) ⊎ SchemaFault c.args.buf.now c.args.table e) c.from_residual.result e
    c.from_residual.ensures.1
    (inr c.in_err-parts.ensures.fault)

pub build_fields-requires-clause-inside : goal.build_fields-requires-clause-inside
build_fields-requires-clause-inside c =
    vector_inside c.args.buf.now c.args.table 1 4
    (vector_ref_of c.in_ok-parts.parts.fields) c.in_ok-parts.ensures.parts.fields_shown

pub returns-in_err-fields-clause-fault : goal.returns-in_err-fields-clause-fault
returns-in_err-fields-clause-fault c =
    let e : MetaFault = c.in_err-fields.field-0.0 in
    handed_on (λ e. (e ≡ OutOfMemory) ⊎ SchemaFault c.args.buf.now c.args.table e) c.from_residual-in_err-fields.result
    e c.from_residual-in_err-fields.ensures.1
    (or_memory e (verify_refused c.args.buf.now c.args.table (vector_ref_of c.in_ok-parts.parts.fields)
    (vector_ref_of c.in_ok-parts.parts.metadata) e
    c.in_ok-parts.ensures.parts.fields_shown c.in_ok-parts.ensures.parts.metadata_shown) c.in_err-fields.ensures.ends)

pub build_entries-requires-clause-inside : goal.build_entries-requires-clause-inside
build_entries-requires-clause-inside c =
    vector_inside c.args.buf.now c.args.table 2 4
    (vector_ref_of c.in_ok-parts.parts.metadata) c.in_ok-parts.ensures.parts.metadata_shown

pub returns-in_err-metadata-clause-fault : goal.returns-in_err-metadata-clause-fault
returns-in_err-metadata-clause-fault c =
    let e : MetaFault = c.in_err-metadata.field-0.0 in
    handed_on (λ e. (e ≡ OutOfMemory) ⊎ SchemaFault c.args.buf.now c.args.table e)
    c.from_residual-in_err-metadata.result e c.from_residual-in_err-metadata.ensures.1
    (or_memory e (entries_too_many c.args.buf.now c.args.table (vector_ref_of c.in_ok-parts.parts.fields)
    (vector_ref_of c.in_ok-parts.parts.metadata) (totals_of c.in_ok-fields.seen) e
    c.in_ok-parts.ensures.parts.fields_shown c.in_ok-parts.ensures.parts.metadata_shown c.in_ok-fields.ensures.passes)
    c.in_err-metadata.ensures.ends)

pub returns-clause-read : goal.returns-clause-read
returns-clause-read c =
    schema_built c.args.buf.now c.args.table (vector_ref_of c.in_ok-parts.parts.fields)
    (vector_ref_of c.in_ok-parts.parts.metadata) c.in_ok-fields.fields.items c.in_ok-metadata.metadata.items
    (schema_shown c.args.buf.now c.args.table (vector_ref_of c.in_ok-parts.parts.fields)
    (vector_ref_of c.in_ok-parts.parts.metadata) (totals_of c.in_ok-fields.seen)
    (totals_of c.in_ok-metadata._all) c.in_ok-parts.ensures.parts.little_endian c.in_ok-parts.ensures.parts.fields_shown
    c.in_ok-parts.ensures.parts.metadata_shown
    c.in_ok-fields.ensures.passes c.in_ok-metadata.ensures.passes c.in_ok-metadata.ensures.within)
    c.in_ok-fields.ensures.read c.in_ok-fields.ensures.all c.in_ok-metadata.ensures.read c.in_ok-metadata.ensures.all
