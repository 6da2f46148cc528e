use Rattle.std.proofs.Common.{inr}
use Rattle.header_types.specs.declared.fault.MetaFault.{MetaFault}
use Rattle.header_reading.specs.Reading.{BatchFaultIn}
use Rattle.header_reading.proofs.SlotFacts.{handed_on}
use Rattle.header_reading.proofs.BatchFacts.{batch_faults}
use Rattle.header_reading.proofs.batch.batch_at.Goals as goal

pub returns-in_err-body_length-clause-fault : goal.returns-in_err-body_length-clause-fault
returns-in_err-body_length-clause-fault c =
    let e : MetaFault = c.in_err-body_length.field-0.0 in
    handed_on (BatchFaultIn c.args.buf.now c.args.message c.args.table) c.from_residual.result e
    c.from_residual.ensures.1
    (inr c.in_err-body_length.ensures.fault)

pub returns-clause-fault : goal.returns-clause-fault
returns-clause-fault c =
    batch_faults c.batch_in.result c.in_ok-table.table c.args.buf.now c.args.message c.args.table
    c.in_ok-table.ensures.seen c.batch_in.ensures.fault
