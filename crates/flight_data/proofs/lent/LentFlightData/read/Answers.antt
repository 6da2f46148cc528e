use Rattle.std.proofs.Common.{inl, inr, subst}
use Rattle.proto_messages.specs.Descriptor.{Values}
use Rattle.proto_messages.specs.Taking.{Takes, TakesAll}
use Rattle.proto_messages.proofs.MessageFaults.{message_is_one, no_message_at_fault}
use Rattle.proto_messages.proofs.MessageTaking.{takes_message}
use Rattle.proto_fields.specs.declared.fault.WireFault.TheVariants.{OutOfMemory}
use Rattle.proto_fields.proofs.Steps.{err_is}
use Rattle.proto_wire.specs.Flight.{data_descriptor}
use Rattle.flight_data.specs.Lent.{lent_values}
use Rattle.flight_data.proofs.lent.LentFlightData.read.Goals as goal

pub returns-in-Ok-clause-read : goal.returns-in-Ok-clause-read
returns-in-Ok-clause-read c =
    let merged = c.in-Ok.ensures.merged in
    takes_message data_descriptor c.args.bytes.now merged.0 (lent_values c.merge.new.self) merged.1
    (subst (λ (v : Values data_descriptor). TakesAll (Takes data_descriptor) merged.0 v (lent_values c.merge.new.self)) c.empty-data.ensures merged.2)

pub returns-in-Ok-clause-only : goal.returns-in-Ok-clause-only
returns-in-Ok-clause-only c = λ v is.
    message_is_one data_descriptor c.args.bytes.now (lent_values c.merge.new.self) v (returns-in-Ok-clause-read c) is

pub returns-clause-only : goal.returns-clause-only
returns-clause-only c = λ v is.
    elim c.fault_of.ensures.stands [
      | inl refused ↦ refused
      | inr stands ↦ absurd (no_message_at_fault data_descriptor c.args.bytes.now c.fault_of.result v stands is)
    ]

pub returns-clause-memory : goal.returns-clause-memory
returns-clause-memory c = λ refused. c.fault_of.ensures.memory (err_is c.fault_of.result OutOfMemory refused)
