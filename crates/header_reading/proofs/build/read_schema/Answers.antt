use Rattle.std.proofs.Common.{◌≡◌, ◌⊎◌, inr}
use Rattle.header_types.specs.declared.fault.MetaFault.{MetaFault}
use Rattle.header_types.specs.declared.fault.MetaFault.TheVariants.{OutOfMemory}
use Rattle.header_reading.specs.Faults.{SchemaFault}
use Rattle.header_reading.proofs.SlotFacts.{handed_on}
use Rattle.header_reading.proofs.NoMemory.{no_memory_fault}
use Rattle.header_reading.proofs.build.read_schema.Goals as goal

pub returns-in_err-verify_schema-in-Err-OutOfMemory-clause-fault : goal.returns-in_err-verify_schema-in-Err-OutOfMemory-clause-fault
returns-in_err-verify_schema-in-Err-OutOfMemory-clause-fault c =
    let e : MetaFault = c.in_err-verify_schema-in-Err-OutOfMemory.field-0.0 in
    handed_on (λ e. (e ≡ OutOfMemory) ⊎ SchemaFault c.args.buf.now c.args.table e) c.from_residual.result e
    c.from_residual.ensures.1
    (inr c.in_err-verify_schema-in-Err-OutOfMemory.ensures.fault)

pub returns-in_err-verify_schema-in-Err-OutOfMemory-clause-memory : goal.returns-in_err-verify_schema-in-Err-OutOfMemory-clause-memory
returns-in_err-verify_schema-in-Err-OutOfMemory-clause-memory c refused =
    let e : MetaFault = c.in_err-verify_schema-in-Err-OutOfMemory.field-0.0 in
    absurd (no_memory_fault c.args.buf.now c.args.table c.from_residual.result
    (handed_on (SchemaFault c.args.buf.now c.args.table) c.from_residual.result e c.from_residual.ensures.1
    c.in_err-verify_schema-in-Err-OutOfMemory.ensures.fault) refused)
