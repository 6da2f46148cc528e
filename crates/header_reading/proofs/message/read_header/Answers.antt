use Rattle.std.proofs.Common.{◌≡◌, ◌⊎◌, inr, Err, arith}
use Rattle.header_types.specs.declared.fault.MetaFault.{MetaFault}
use Rattle.header_types.specs.declared.fault.MetaFault.TheVariants.{OutOfMemory}
use Rattle.header_reading.specs.Faults.{HeaderFault}
use Rattle.header_reading.proofs.SlotFacts.{handed_on}
use Rattle.header_reading.proofs.MessageFacts.{schema_there, batch_there, schema_wrong, batch_wrong, dictionary_wrong}
use Rattle.header_reading.proofs.MessageFacts.{other_wrong, refused}
use Rattle.header_reading.proofs.message.read_header.Goals as goal

pub returns-in_err-read_schema-in-1-clause-fault : goal.returns-in_err-read_schema-in-1-clause-fault
returns-in_err-read_schema-in-1-clause-fault c =
    let m = c.args.message in
    let e : MetaFault = c.in_err-read_schema-in-1.field-0.0 in
    handed_on (λ e. (e ≡ OutOfMemory) ⊎ HeaderFault c.args.buf.now e) c.from_residual.result e c.from_residual.ensures.1
    (schema_wrong c.args.buf.now m.place m.header_type m.table e c.in-1.is c.requires
    c.in_err-read_schema-in-1.ensures.fault)

pub returns-in_err-read_schema-in-1-clause-memory : goal.returns-in_err-read_schema-in-1-clause-memory
returns-in_err-read_schema-in-1-clause-memory c =
    let m = c.args.message in
    let e : MetaFault = c.in_err-read_schema-in-1.field-0.0 in
    λ is. let memory : e ≡ OutOfMemory = refused c.from_residual.result e c.from_residual.ensures.1 is in
    let was : c.read_schema.result ≡ Err OutOfMemory = cc in
    schema_there c.args.buf.now m.place m.header_type m.table c.in-1.is c.requires (c.read_schema.ensures.memory was)

pub returns-in_err-read_batch-in-3-clause-fault : goal.returns-in_err-read_batch-in-3-clause-fault
returns-in_err-read_batch-in-3-clause-fault c =
    let m = c.args.message in
    let e : MetaFault = c.in_err-read_batch-in-3.field-0.0 in
    handed_on (λ e. (e ≡ OutOfMemory) ⊎ HeaderFault c.args.buf.now e) c.from_residual-in_err-read_batch-in-3.result e
    c.from_residual-in_err-read_batch-in-3.ensures.1
    (batch_wrong c.args.buf.now m.place m.header_type m.table e c.in-3.is c.requires
    c.in_err-read_batch-in-3.ensures.fault)

pub returns-in_err-read_batch-in-3-clause-memory : goal.returns-in_err-read_batch-in-3-clause-memory
returns-in_err-read_batch-in-3-clause-memory c =
    let m = c.args.message in
    let e : MetaFault = c.in_err-read_batch-in-3.field-0.0 in
    λ is. let memory : e ≡ OutOfMemory = refused c.from_residual-in_err-read_batch-in-3.result e
    c.from_residual-in_err-read_batch-in-3.ensures.1 is in
    let was : c.read_batch.result ≡ Err OutOfMemory = cc in
    batch_there c.args.buf.now m.place m.header_type m.table c.in-3.is c.requires (c.read_batch.ensures.memory was)

pub returns-in-2-clause-fault : goal.returns-in-2-clause-fault
returns-in-2-clause-fault c =
    let m = c.args.message in inr (dictionary_wrong c.args.buf.now m.place m.header_type m.table c.in-2.is c.requires)

pub returns-in_default-clause-fault : goal.returns-in_default-clause-fault
returns-in_default-clause-fault c =
    let m = c.args.message in
    inr (other_wrong c.args.buf.now m.place m.header_type m.table (λ is. omega arith) (λ is. omega arith)
    (λ is. omega arith) c.requires)
