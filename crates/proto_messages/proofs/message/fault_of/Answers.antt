use Rattle.std.proofs.Common.{subst}
use Rattle.proto_fields.specs.declared.fault.WireFault.{WireFault}
use Rattle.proto_messages.specs.Descriptor.{TextFault, FieldIsAtFault}
use Rattle.proto_messages.proofs.Sound.{no_memory_fault}
use Rattle.proto_messages.proofs.message.fault_of.Goals as goal

pub returns-in-Err-clause-memory : goal.returns-in-Err-clause-memory
returns-in-Err-clause-memory g c = λ refused.
    absurd (no_memory_fault g.M.ProtoMessage.descriptor c.args.bytes.now
    (subst (λ (e : WireFault). TextFault (FieldIsAtFault g.M.ProtoMessage.descriptor) e c.args.bytes.now) refused c.in-Err.ensures.fault))
