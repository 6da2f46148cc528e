use Rattle.header_types.specs.Views.{schema_of}
use Rattle.uploads.proofs.Counts.{next_of_schema, next_sized, not_served}
use Rattle.uploads.proofs.sizes.batches_size.Goals as goal

pub batch_size-requires : goal.batch_size-requires
batch_size-requires c = record {
  profile = c.requires.of_schema.profile;
  of_schema =
      next_of_schema (schema_of c.args.schema.now) c.args.id.now c.args.batches.now c.loop-batch.batch-index c.loop-batch.total c.batch-item.result
      c.loop-batch-test.true c.batch-item.is c.loop-batch.invariant;
}

pub returns-in_default-clause-none : goal.returns-in_default-clause-none
returns-in_default-clause-none c =
    not_served (schema_of c.args.schema.now) c.args.id.now c.args.batches.now c.loop-batch.batch-index c.loop-batch.total c.batch-item.result
    c.loop-batch-test.true c.batch-item.is c.loop-batch.invariant c.in_default.ensures.none

pub loop-batch-preserved : goal.loop-batch-preserved
loop-batch-preserved c =
    next_sized (schema_of c.args.schema.now) c.args.id.now c.args.batches.now c.loop-batch.batch-index c.loop-batch.total c.batch-item.result
    c.loop-batch-test.true c.batch-item.is c.loop-batch.invariant c.in-Some.size c.in-Some.ensures.size c.in-Some.ensures.few c.in-Some.ensures.can
    c.in-Some.ensures.served
