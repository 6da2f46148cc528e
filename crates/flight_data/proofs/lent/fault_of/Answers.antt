use Rattle.std.proofs.Common.{subst, inr}
use Rattle.proto_fields.specs.declared.fault.WireFault.{WireFault}
use Rattle.proto_messages.specs.Descriptor.{TextFault, FieldIsAtFault}
use Rattle.proto_messages.proofs.Sound.{no_memory_fault}
use Rattle.proto_wire.specs.Flight.{data_descriptor}
use Rattle.flight_data.proofs.Embedded.{no_fault_within, fault_within}
use Rattle.flight_data.proofs.lent.fault_of.Goals as goal

pub returns-in-Ok-clause-memory : goal.returns-in-Ok-clause-memory
returns-in-Ok-clause-memory c = λ refused. no_fault_within data_descriptor c.args.bytes.now c.in-Ok.ensures.ok

pub returns-in-Err-clause-stands : goal.returns-in-Err-clause-stands
returns-in-Err-clause-stands c = inr (fault_within data_descriptor c.args.bytes.now _ c.in-Err.ensures.fault)

pub returns-in-Err-clause-memory : goal.returns-in-Err-clause-memory
returns-in-Err-clause-memory c = λ refused.
    absurd (no_memory_fault data_descriptor c.args.bytes.now
    (subst (λ (e : WireFault). TextFault (FieldIsAtFault data_descriptor) e c.args.bytes.now) refused
    (fault_within data_descriptor c.args.bytes.now _ c.in-Err.ensures.fault)))
