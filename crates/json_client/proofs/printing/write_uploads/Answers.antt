use Rattle.std.proofs.lemmas.Result.{err_from_is_err_and}
use Rattle.header_types.specs.Views.{schema_of}
use Rattle.json_client.specs.Prints.{rows_served}
use Rattle.json_client.proofs.Printed.{part_told, printed_next, printing_fails}
use Rattle.json_client.proofs.printing.write_uploads.Goals as goal

pub returns-in_err-write_batches-clause-written : goal.returns-in_err-write_batches-clause-written
returns-in_err-write_batches-clause-written g c =
    let p = err_from_is_err_and c.from_residual.result c.from_residual.ensures.1 in
    rw (p.1, p.2)
    (printing_fails rows_served c.args.uploads.now c.loop-upload.upload-index c.upload-item.result c.loop-upload-test.true c.upload-item.is (schema_of c.args.schema.now).fields c.in_err-write_batches.field-0.0
    (g.O.Write.contents c.args.out.now) (g.O.Write.contents c.loop-upload.out) (g.O.Write.contents c.write_batches.new.out) c.loop-upload.invariant
    (rw c.deref.ensures.value at c.in_err-write_batches.ensures.written))

pub loop-upload-preserved : goal.loop-upload-preserved
loop-upload-preserved g c =
    printed_next rows_served c.args.uploads.now c.loop-upload.upload-index c.upload-item.result c.loop-upload-test.true c.upload-item.is (schema_of c.args.schema.now).fields
    (g.O.Write.contents c.args.out.now) (g.O.Write.contents c.loop-upload.out) (g.O.Write.contents c.write_batches.new.out) c.loop-upload.invariant
    (rw c.deref.ensures.value at c.in_ok-write_batches.ensures.written)

pub returns-in_err-write_batches-clause-cell : goal.returns-in_err-write_batches-clause-cell
returns-in_err-write_batches-clause-cell g c = λ values told.
    let p = err_from_is_err_and c.from_residual.result c.from_residual.ensures.1 in
    rw (p.1, p.2)
    (let part = part_told rows_served c.args.uploads.now c.loop-upload.upload-index c.upload-item.result c.loop-upload-test.true c.upload-item.is (schema_of c.args.schema.now).fields values told in
    (rw c.deref.ensures.value at c.in_err-write_batches.ensures.cell) part.0 part.1)
