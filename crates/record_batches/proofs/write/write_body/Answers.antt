use Rattle.std.proofs.Common.{ap, ◌∙◌, ◌++◌, arith}
use Rattle.header_types.specs.Views.{schema_of}
use Rattle.batch_columns.specs.Batches.{rows_of}
use Rattle.batch_types.specs.Canonical.{canonical_body}
use Rattle.record_batches.proofs.Rooms.{laid_out}
use Rattle.record_batches.proofs.write.write_body.Goals as goal

pub batch_head-requires : goal.batch_head-requires
batch_head-requires c = record {
  of_schema = c.requires.of_schema;
  short =
      let known = c.in-Some.ensures.known (schema_of c.args.schema.now) c.requires.of_schema.shapes in
      omega (arith, known, c.in-Some.ensures.fits);
}

pub returns-clause-body : goal.returns-clause-body
returns-clause-body c =
    c.in_ok-append_body.ensures.appended (schema_of c.args.schema.now) c.requires.of_schema
    ∙ ap (λ l. l ++ canonical_body (schema_of c.args.schema.now) (rows_of c.args.batch.now)) c.in_ok-body.ensures.items

pub returns-clause-laid : goal.returns-clause-laid
returns-clause-laid c =
    laid_out (schema_of c.args.schema.now) (rows_of c.args.batch.now) c.in_ok-head.ensures.room c.written_rows_are_laid_out.ensures.laid _ _
    c.in_ok-head.ensures.head (returns-clause-body c)
