use Rattle.std.proofs.Common.{inr, subst}
use Rattle.header_types.specs.declared.fault.MetaFault.{MetaFault}
use Rattle.flat_places.specs.Table.{Seen}
use Rattle.header_reading.specs.Faults.{MessageFault}
use Rattle.header_reading.specs.Reading.{RootFault}
use Rattle.header_reading.proofs.SlotFacts.{handed_on}
use Rattle.header_reading.proofs.message.message_at.Goals as goal

pub returns-in_err-header_type-clause-fault : goal.returns-in_err-header_type-clause-fault
returns-in_err-header_type-clause-fault c =
    let e : MetaFault = c.in_err-header_type.field-0.0 in
    handed_on (RootFault c.args.buf.now) c.from_residual-in_err-header_type.result e
    c.from_residual-in_err-header_type.ensures.1
    (inr (
      c.in_ok-place.place,
      c.in_ok-place.ensures.read,
      subst (λ (k : Seen). MessageFault k.buf k.place e)
          c.in_ok-message.ensures.seen c.in_err-header_type.ensures.fault,
    ))
