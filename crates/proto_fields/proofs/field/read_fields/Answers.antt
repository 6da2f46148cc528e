use Rattle.std.proofs.Common.{inl, inr}
use Rattle.proto_fields.specs.declared.fault.WireFault.TheVariants.{OutOfMemory}
use Rattle.proto_fields.specs.Field.{fields_of}
use Rattle.proto_fields.proofs.Fronts.{fields_same}
use Rattle.proto_fields.proofs.FaultsApart.{no_fields_at_fault}
use Rattle.proto_fields.proofs.Steps.{err_is}
use Rattle.proto_fields.proofs.field.read_fields.Goals as goal

pub returns-in-Ok-clause-only : goal.returns-in-Ok-clause-only
returns-in-Ok-clause-only c = λ fields is. fields_same c.args.bytes.now fields (fields_of c.in-Ok.read.items) is c.in-Ok.ensures.read

pub returns-in-Err-clause-only : goal.returns-in-Err-clause-only
returns-in-Err-clause-only c = λ fields is.
    elim c.fault_of.ensures.stands [
      | inl refused ↦ refused
      | inr stands ↦ absurd (no_fields_at_fault c.args.bytes.now c.fault_of.result fields stands is)
    ]

pub returns-in-Err-clause-memory : goal.returns-in-Err-clause-memory
returns-in-Err-clause-memory c = λ refused. c.fault_of.ensures.memory (err_is c.fault_of.result OutOfMemory refused)
