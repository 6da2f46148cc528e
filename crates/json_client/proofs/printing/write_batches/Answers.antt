use Rattle.std.proofs.lemmas.Result.{err_from_is_err_and}
use Rattle.header_types.specs.Views.{schema_of}
use Rattle.json_client.specs.Prints.{rows_alone}
use Rattle.json_client.proofs.Printed.{part_told, printed_next, printing_fails}
use Rattle.json_client.proofs.printing.write_batches.Goals as goal

pub returns-in_err-write_batch-clause-written : goal.returns-in_err-write_batch-clause-written
returns-in_err-write_batch-clause-written g c =
    let p = err_from_is_err_and c.from_residual.result c.from_residual.ensures.1 in
    rw (p.1, p.2)
    (printing_fails rows_alone c.args.batches.now c.loop-batch.batch-index c.batch-item.result c.loop-batch-test.true c.batch-item.is (schema_of c.args.schema.now).fields c.in_err-write_batch.field-0.0
    (g.O.Write.contents c.args.out.now) (g.O.Write.contents c.loop-batch.out) (g.O.Write.contents c.write_batch.new.out) c.loop-batch.invariant c.in_err-write_batch.ensures.written)

pub loop-batch-preserved : goal.loop-batch-preserved
loop-batch-preserved g c =
    printed_next rows_alone c.args.batches.now c.loop-batch.batch-index c.batch-item.result c.loop-batch-test.true c.batch-item.is (schema_of c.args.schema.now).fields
    (g.O.Write.contents c.args.out.now) (g.O.Write.contents c.loop-batch.out) (g.O.Write.contents c.write_batch.new.out) c.loop-batch.invariant c.in_ok-write_batch.ensures.written

pub returns-in_err-write_batch-clause-cell : goal.returns-in_err-write_batch-clause-cell
returns-in_err-write_batch-clause-cell g c = λ values told.
    let p = err_from_is_err_and c.from_residual.result c.from_residual.ensures.1 in
    rw (p.1, p.2)
    (let part = part_told rows_alone c.args.batches.now c.loop-batch.batch-index c.batch-item.result c.loop-batch-test.true c.batch-item.is (schema_of c.args.schema.now).fields values told in
    c.in_err-write_batch.ensures.cell part.0 part.1)
