use Rattle.std.proofs.Common.{◌≡◌, ◌⊎◌}
use Rattle.header_types.specs.declared.fault.MetaFault.{MetaFault}
use Rattle.header_types.specs.declared.fault.MetaFault.TheVariants.{OutOfMemory}
use Rattle.header_reading.specs.Faults.{HeaderFault}
use Rattle.header_reading.proofs.SlotFacts.{handed_on}
use Rattle.header_reading.proofs.MessageFacts.{root_wrong, only_one, none_shown}
use Rattle.header_reading.proofs.message.read_message.Goals as goal

pub returns-in_err-message-clause-fault : goal.returns-in_err-message-clause-fault
returns-in_err-message-clause-fault c =
    let e : MetaFault = c.in_err-message.field-0.0 in
    handed_on (λ e. (e ≡ OutOfMemory) ⊎ HeaderFault c.args.buf.now e) c.from_residual.result e c.from_residual.ensures.1
    (root_wrong c.args.buf.now e c.in_err-message.ensures.fault)

pub returns-in_err-message-clause-only : goal.returns-in_err-message-clause-only
returns-in_err-message-clause-only c =
    none_shown c.args.buf.now c.from_residual.result c.in_err-message.field-0.0 c.from_residual.ensures.1
    c.in_err-message.ensures.fault

pub returns-clause-only : goal.returns-clause-only
returns-clause-only c = only_one c.args.buf.now c.read_header.result c.read_header.ensures.read
    c.read_header.ensures.fault
