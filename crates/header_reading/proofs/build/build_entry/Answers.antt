use Rattle.std.proofs.Common.{◌≡◌, ◌⊎◌, inr}
use Rattle.header_types.specs.declared.fault.MetaFault.{MetaFault}
use Rattle.header_types.specs.declared.fault.MetaFault.TheVariants.{OutOfMemory}
use Rattle.header_types.specs.Totals.{totals_of}
use Rattle.header_reading.specs.Walking.{EntryEnd}
use Rattle.header_reading.proofs.SlotFacts.{handed_on}
use Rattle.header_reading.proofs.build.build_entry.Goals as goal

pub returns-in_err-key-clause-ends : goal.returns-in_err-key-clause-ends
returns-in_err-key-clause-ends c =
    let e : MetaFault = c.in_err-key.field-0.0 in
    handed_on (λ e. (e ≡ OutOfMemory) ⊎ EntryEnd c.args.buf.now c.args.table (totals_of c.args.seen) e)
    c.from_residual.result e c.from_residual.ensures.1
    (inr c.in_err-key.ensures.ends)
