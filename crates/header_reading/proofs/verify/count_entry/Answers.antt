use Rattle.header_types.specs.declared.fault.MetaFault.{MetaFault}
use Rattle.header_types.specs.Totals.{totals_of}
use Rattle.header_reading.specs.Walking.{EntryEnd}
use Rattle.header_reading.proofs.SlotFacts.{handed_on}
use Rattle.header_reading.proofs.EntryWalks.{entry_fault}
use Rattle.header_reading.proofs.verify.count_entry.Goals as goal

pub returns-in_err-key-clause-ends : goal.returns-in_err-key-clause-ends
returns-in_err-key-clause-ends c =
    let e : MetaFault = c.in_err-key.field-0.0 in
    handed_on (EntryEnd c.args.buf.now c.args.table (totals_of c.args.seen)) c.from_residual.result e
    c.from_residual.ensures.1
    (entry_fault c.args.buf.now c.args.table (totals_of c.args.seen) e c.in_err-key.ensures.fault)
