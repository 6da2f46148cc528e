use Rattle.std.proofs.Common.{◌≡◌, ◌⊎◌, inr, arith, rules}
use Rattle.std.proofs.lemmas.Grind.{common_steps}
use Rattle.header_types.specs.declared.fault.MetaFault.{MetaFault}
use Rattle.header_types.specs.declared.fault.MetaFault.TheVariants.{OutOfMemory}
use Rattle.header_reading.specs.VectorRefs.{vector_ref_of}
use Rattle.header_reading.specs.Reading.{BatchFaultIn}
use Rattle.header_reading.proofs.SlotFacts.{handed_on}
use Rattle.header_reading.proofs.Walking.{vector_inside}
use Rattle.header_reading.proofs.BatchFacts.{batch_there}
use Rattle.header_reading.proofs.batch.read_batch.Goals as goal

pub returns-in_err-batch-clause-fault : goal.returns-in_err-batch-clause-fault
returns-in_err-batch-clause-fault c =
    let e : MetaFault = c.in_err-batch.field-0.0 in
    handed_on (λ e. (e ≡ OutOfMemory) ⊎ BatchFaultIn c.args.buf.now c.args.message c.args.table e)
    c.from_residual.result e c.from_residual.ensures.1
    (inr c.in_err-batch.ensures.fault)

pub pairs_at-requires : goal.pairs_at-requires
pairs_at-requires c = vector_inside c.args.buf.now c.args.table 1 16
    (vector_ref_of c.in_ok-batch.batch.nodes) c.in_ok-batch.ensures.read.nodes_shown

pub returns-in_err-nodes-clause-memory : goal.returns-in_err-nodes-clause-memory
returns-in_err-nodes-clause-memory c =
    let b = c.in_ok-batch.batch in
    λ refused. batch_there c.args.buf.now c.args.message c.args.table b.length (vector_ref_of b.nodes)
    (vector_ref_of b.buffers) b.compressed b.body_length
    c.in_ok-batch.ensures.read (λ i. omega (arith, c.type_inv.buf i))

pub pairs_at-requires-2 : goal.pairs_at-requires-2
pairs_at-requires-2 c = vector_inside c.args.buf.now c.args.table 2 16
    (vector_ref_of c.in_ok-batch.batch.buffers) c.in_ok-batch.ensures.read.buffers_shown

pub returns-in_err-buffers-clause-memory : goal.returns-in_err-buffers-clause-memory
returns-in_err-buffers-clause-memory c =
    let b = c.in_ok-batch.batch in
    λ refused. batch_there c.args.buf.now c.args.message c.args.table b.length (vector_ref_of b.nodes)
    (vector_ref_of b.buffers) b.compressed b.body_length
    c.in_ok-batch.ensures.read (λ i. omega (arith, c.type_inv.buf i))

pub returns-in_err-batch-clause-read : goal.returns-in_err-batch-clause-read
returns-in_err-batch-clause-read c = search rules steps 300000

pub returns-in_err-batch-clause-memory : goal.returns-in_err-batch-clause-memory
returns-in_err-batch-clause-memory c = search rules steps 300000

pub returns-in_err-nodes-clause-read : goal.returns-in_err-nodes-clause-read
returns-in_err-nodes-clause-read c = search rules steps 300000

pub returns-in_err-nodes-clause-fault : goal.returns-in_err-nodes-clause-fault
returns-in_err-nodes-clause-fault c = search rules steps 300000

pub returns-in_err-buffers-clause-read : goal.returns-in_err-buffers-clause-read
returns-in_err-buffers-clause-read c = grind (arith, common_steps) steps 600000

pub returns-in_err-buffers-clause-fault : goal.returns-in_err-buffers-clause-fault
returns-in_err-buffers-clause-fault c = grind (arith, common_steps) steps 600000

pub returns-clause-read : goal.returns-clause-read
returns-clause-read c = search rules steps 2000000

pub returns-clause-fault : goal.returns-clause-fault
returns-clause-fault c = search rules steps 300000

pub returns-clause-memory : goal.returns-clause-memory
returns-clause-memory c = search rules steps 300000
