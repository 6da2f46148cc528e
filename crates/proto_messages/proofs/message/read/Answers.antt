use Rattle.std.proofs.Common.{inl, inr, subst}
use Rattle.proto_messages.specs.Descriptor.{Values}
use Rattle.proto_messages.specs.Taking.{Takes, TakesAll}
use Rattle.proto_messages.proofs.MessageFaults.{message_is_one, no_message_at_fault}
use Rattle.proto_messages.proofs.MessageTaking.{takes_message}
use Rattle.proto_fields.specs.declared.fault.WireFault.TheVariants.{OutOfMemory}
use Rattle.proto_fields.proofs.Steps.{err_is}
use Rattle.proto_messages.proofs.message.read.Goals as goal

pub returns-in-Ok-clause-read : goal.returns-in-Ok-clause-read
returns-in-Ok-clause-read g c =
    let merged = c.in-Ok.ensures.merged in
    takes_message g.M.ProtoMessage.descriptor c.args.bytes.now merged.0 (g.M.ProtoMessage.values c.merge.new.message) merged.1
    (subst (λ (v : Values g.M.ProtoMessage.descriptor). TakesAll (Takes g.M.ProtoMessage.descriptor) merged.0 v (g.M.ProtoMessage.values c.merge.new.message)) c.empty-message.ensures merged.2)

pub returns-in-Ok-clause-only : goal.returns-in-Ok-clause-only
returns-in-Ok-clause-only g c = λ v is. message_is_one g.M.ProtoMessage.descriptor c.args.bytes.now (g.M.ProtoMessage.values c.merge.new.message) v (returns-in-Ok-clause-read g c) is

pub returns-in-Err-clause-only : goal.returns-in-Err-clause-only
returns-in-Err-clause-only g c = λ v is.
    elim c.fault_of.ensures.stands [
      | inl refused ↦ refused
      | inr stands ↦ absurd (no_message_at_fault g.M.ProtoMessage.descriptor c.args.bytes.now c.fault_of.result v stands is)
    ]

pub returns-in-Err-clause-memory : goal.returns-in-Err-clause-memory
returns-in-Err-clause-memory g c = λ refused. c.fault_of.ensures.memory (err_is c.fault_of.result OutOfMemory refused)
