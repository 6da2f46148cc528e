use Rattle.std.proofs.Common.{ℕ, List, subst}
use Rattle.flat_places.specs.Fault.{TextFault}
use Rattle.flat_places.specs.declared.fault.PlaceFault.{PlaceFault}
use Rattle.header_types.specs.FaultOf.{fault_of}
use Rattle.header_types.specs.Slots.{StringFault}
use Rattle.header_reading.proofs.SlotFacts.{handed_on, string_wrong}
use Rattle.header_reading.proofs.slots.string.Goals as goal

pub returns-in_err-text-in-Some-clause-fault : goal.returns-in_err-text-in-Some-clause-fault
returns-in_err-text-in-Some-clause-fault c =
    let e : PlaceFault = c.in_err-text-in-Some.field-0.0 in
    handed_on (StringFault c.args.table.now.buf c.args.table.now.place c.args.n)
    c.from_residual-in_err-text-in-Some.result (fault_of e) c.from_residual-in_err-text-in-Some.ensures.1
    (string_wrong c.args.table.now.buf c.args.table.now.place c.args.n c.in-Some.target c.in_ok-target.field-0 e
    c.in_ok-target.ensures.read c.in-Some.is
    (subst (λ (b : List ℕ). TextFault b c.in-Some.target e) c.buf.ensures c.in_err-text-in-Some.ensures.fault))
