use Rattle.std.proofs.Common.{inl}
use Rattle.header_types.specs.declared.fault.MetaFault.{MetaFault}
use Rattle.header_reading.specs.Faults.{EntryFault}
use Rattle.header_reading.proofs.SlotFacts.{handed_on, table_wrong}
use Rattle.header_reading.proofs.field.read_entry.Goals as goal

pub returns-in_err-table-clause-fault : goal.returns-in_err-table-clause-fault
returns-in_err-table-clause-fault c =
    let e : MetaFault = c.in_err-table.field-0.0 in
    handed_on (EntryFault c.args.buf.now c.args.table) c.from_residual.result e c.from_residual.ensures.1
    (inl (inl (inl (table_wrong c.args.buf.now c.args.table 0 e c.in_err-table.ensures.fault))))
