use Rattle.std.proofs.Common.{arith, ap, length, subst, sym, ◌∙◌}
use Rattle.std.proofs.lemmas.Bool.{false≢true}
use Rattle.std.proofs.lemmas.Result.{err_from_is_err_and}
use Rattle.header_types.specs.HeaderViews.{head_of}
use Rattle.header_types.specs.Views.{schema_of}
use Rattle.batch_types.specs.Canonical.{canonical_head}
use Rattle.batch_columns.specs.Batches.{rows_of}
use Rattle.uploads.proofs.Shown.{head_shows, rows_laid, rows_moved}
use Rattle.uploads.proofs.reading.read_written_batch.Goals as goal

pub returns-in_err-head-clause-fault : goal.returns-in_err-head-clause-fault
returns-in_err-head-clause-fault c =
    let p = err_from_is_err_and c.from_residual.result c.from_residual.ensures.1 in
    rw (p.1, p.2)
    (λ is rows are. c.in_err-head.ensures.fault is (canonical_head (schema_of c.args.schema.now) rows)
    (head_shows c.written_headers_are_shown.ensures c.batches_have_headers.ensures (schema_of c.args.schema.now) c.args.header.now c.args.body.now rows
    c.requires.profile c.requires.short are))

pub returns-in_err-batch-clause-fault : goal.returns-in_err-batch-clause-fault
returns-in_err-batch-clause-fault c =
    let p = err_from_is_err_and c.from_residual-in_err-batch.result c.from_residual-in_err-batch.ensures.1 in
    rw (p.1, p.2)
    (λ is rows are.
    let same = c.in_ok-head.ensures.only (canonical_head (schema_of c.args.schema.now) rows)
    (head_shows c.written_headers_are_shown.ensures c.batches_have_headers.ensures (schema_of c.args.schema.now) c.args.header.now c.args.body.now rows
    c.requires.profile c.requires.short are) in
    let longer = c.in_err-batch.ensures.fault is rows
    (rows_laid c.written_rows_are_laid_out.ensures.laid (schema_of c.args.schema.now) c.args.header.now c.args.body.now rows (head_of c.in_ok-head.head)
    c.requires.profile are same) in
    omega (arith, longer, ap length are.body_is))

pub returns-clause-fault : goal.returns-clause-fault
returns-clause-fault c = λ is rows are.
    let same = c.in_ok-head.ensures.only (canonical_head (schema_of c.args.schema.now) rows)
    (head_shows c.written_headers_are_shown.ensures c.batches_have_headers.ensures (schema_of c.args.schema.now) c.args.header.now c.args.body.now rows
    c.requires.profile c.requires.short are) in
    let laid = rows_laid c.written_rows_are_laid_out.ensures.laid (schema_of c.args.schema.now) c.args.header.now c.args.body.now rows (head_of c.in_ok-head.head)
    c.requires.profile are same in
    let one = c.batches_are_one.ensures.batch (schema_of c.args.schema.now) (head_of c.in_ok-head.head) c.args.body.now (rows_of c.in_ok-batch.batch) rows
    c.in_ok-batch.ensures.laid laid in
    false≢true (sym c.if-branch.false ∙ c.in_ok-is_written_so.ensures.1 (rows_moved (schema_of c.args.schema.now) (c.args.header.now, c.args.body.now) (rows_of c.in_ok-batch.batch) rows one are))

pub returns-then-branch-clause-only : goal.returns-then-branch-clause-only
returns-then-branch-clause-only c = λ rows are.
    let same = c.in_ok-head.ensures.only (canonical_head (schema_of c.args.schema.now) rows)
    (head_shows c.written_headers_are_shown.ensures c.batches_have_headers.ensures (schema_of c.args.schema.now) c.args.header.now c.args.body.now rows
    c.requires.profile c.requires.short are) in
    let laid = rows_laid c.written_rows_are_laid_out.ensures.laid (schema_of c.args.schema.now) c.args.header.now c.args.body.now rows (head_of c.in_ok-head.head)
    c.requires.profile are same in
    c.batches_are_one.ensures.batch (schema_of c.args.schema.now) (head_of c.in_ok-head.head) c.args.body.now (rows_of c.in_ok-batch.batch) rows
    c.in_ok-batch.ensures.laid laid
