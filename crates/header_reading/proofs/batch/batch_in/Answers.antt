use Rattle.std.proofs.Common.{inl, inr}
use Rattle.header_types.specs.declared.fault.MetaFault.{MetaFault}
use Rattle.header_reading.specs.Faults.{BatchFault}
use Rattle.header_reading.proofs.SlotFacts.{handed_on}
use Rattle.header_reading.proofs.batch.batch_in.Goals as goal

pub returns-in_err-buffers-clause-fault : goal.returns-in_err-buffers-clause-fault
returns-in_err-buffers-clause-fault c =
    let e : MetaFault = c.in_err-buffers.field-0.0 in
    handed_on (BatchFault c.args.table.now.buf c.args.table.now.place) c.from_residual-in_err-buffers.result e
    c.from_residual-in_err-buffers.ensures.1
    (inr (inr (inl c.in_err-buffers.ensures.fault)))
