use Rattle.std.proofs.Common.{inl, inr}
use Rattle.header_types.specs.declared.fault.MetaFault.{MetaFault}
use Rattle.header_reading.specs.Faults.{SchemaFault}
use Rattle.header_reading.proofs.SlotFacts.{handed_on}
use Rattle.header_reading.proofs.verify.schema_in.Goals as goal

pub returns-in_err-metadata-clause-fault : goal.returns-in_err-metadata-clause-fault
returns-in_err-metadata-clause-fault c =
    let e : MetaFault = c.in_err-metadata.field-0.0 in
    handed_on (SchemaFault c.args.table.now.buf c.args.table.now.place) c.from_residual-in_err-metadata.result e
    c.from_residual-in_err-metadata.ensures.1
    (inr (inr (inr (inl (inl c.in_err-metadata.ensures.fault)))))
