use Rattle.std.proofs.Common.{refl}
use Rattle.std.proofs.lemmas.Result.{err_from_is_err_and}
use Rattle.header_types.specs.Views.{schema_of}
use Rattle.batch_columns.specs.Batches.{rows_of}
use Rattle.uploads.proofs.Batched.{one_read, none_such}
use Rattle.uploads.proofs.reading.check_batches.Goals as goal

pub loop-header-preserved : goal.loop-header-preserved
loop-header-preserved c =
    (one_read (schema_of c.args.schema.now) c.args.batches.now c.loop-header.left c.next.new.self c.in-Some.header.now c.in-Some.body.now (c.in-Some.header, c.in-Some.body)
    (refl, refl) c.in-Some.ensures (rows_of c.in_ok-read_written_batch.field-0) c.in_ok-read_written_batch.ensures.read c.loop-header.invariant).0

pub loop-header-smaller : goal.loop-header-smaller
loop-header-smaller c =
    (one_read (schema_of c.args.schema.now) c.args.batches.now c.loop-header.left c.next.new.self c.in-Some.header.now c.in-Some.body.now (c.in-Some.header, c.in-Some.body)
    (refl, refl) c.in-Some.ensures (rows_of c.in_ok-read_written_batch.field-0) c.in_ok-read_written_batch.ensures.read c.loop-header.invariant).1

pub returns-in_err-read_written_batch-clause-fault : goal.returns-in_err-read_written_batch-clause-fault
returns-in_err-read_written_batch-clause-fault c =
    let p = err_from_is_err_and c.from_residual.result c.from_residual.ensures.1 in
    rw (p.1, p.2)
    (λ is. none_such (schema_of c.args.schema.now) c.args.batches.now c.loop-header.left c.next.new.self c.in-Some.header.now c.in-Some.body.now (c.in-Some.header, c.in-Some.body)
    (refl, refl) c.in-Some.ensures c.loop-header.invariant (c.in_err-read_written_batch.ensures.fault is))
