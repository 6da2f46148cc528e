use Rattle.std.proofs.Common.{refl}
use Rattle.header_types.specs.HeaderViews.{head_of}
use Rattle.header_types.specs.Views.{schema_of}
use Rattle.batch_types.specs.Canonical.{canonical_head}
use Rattle.batch_columns.specs.Batches.{rows_of}
use Rattle.uploads.proofs.Shown.{head_shows, rows_laid}
use Rattle.uploads.proofs.written.written_batch.Goals as goal

pub unreachable-requires : goal.unreachable-requires
unreachable-requires c =
    let S = schema_of c.args.schema.now in
    c.in-Err-NotAnUpload.ensures.fault c.in-Err-NotAnUpload.field-0-is (canonical_head S c.requires.known.0)
    (head_shows c.written_headers_are_shown.ensures c.batches_have_headers.ensures S c.args.header.now c.args.body.now c.requires.known.0 c.requires.profile c.requires.short
    c.requires.known.1)

pub build_batch-requires : goal.build_batch-requires
build_batch-requires c =
    let S = schema_of c.args.schema.now in
    let rows = c.requires.known.0 in
    let are = c.requires.known.1 in
    let same = c.in-Ok.ensures.only (canonical_head S rows)
    (head_shows c.written_headers_are_shown.ensures c.batches_have_headers.ensures S c.args.header.now c.args.body.now rows c.requires.profile c.requires.short are) in
    record {
      profile = c.requires.profile;
      laid = (rows, rows_laid c.written_rows_are_laid_out.ensures.laid S c.args.header.now c.args.body.now rows (head_of c.in-Ok.head) c.requires.profile are same);
    }

pub returns-in-Ok-build_batch-clause-rows : goal.returns-in-Ok-build_batch-clause-rows
returns-in-Ok-build_batch-clause-rows c = λ rows are.
    let S = schema_of c.args.schema.now in
    let same = c.in-Ok.ensures.only (canonical_head S rows)
    (head_shows c.written_headers_are_shown.ensures c.batches_have_headers.ensures S c.args.header.now c.args.body.now rows c.requires.profile c.requires.short are) in
    let laid = rows_laid c.written_rows_are_laid_out.ensures.laid S c.args.header.now c.args.body.now rows (head_of c.in-Ok.head) c.requires.profile are same in
    c.batches_are_one.ensures.batch S (head_of c.in-Ok.head) c.args.body.now (rows_of c.in-Ok-build_batch.batch) rows c.in-Ok-build_batch.ensures.rows laid
