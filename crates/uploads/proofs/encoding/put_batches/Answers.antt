use Rattle.header_types.specs.Views.{schema_of}
use Rattle.uploads.proofs.Puts.{next_of_schema, next_short, next_put, all_put}
use Rattle.uploads.proofs.encoding.put_batches.Goals as goal

pub put_batch-requires : goal.put_batch-requires
put_batch-requires c =
    let S = schema_of c.args.schema.now in
    let short = next_short S c.args.batches.now c.args.text.now.items c.loop-batch.text.items c.loop-batch.batch-index c.batch-item.result c.loop-batch-test.true c.batch-item.is c.loop-batch.invariant in
    record {
      profile = c.requires.of_schema.profile;
      of_schema = next_of_schema S c.args.batches.now c.args.text.now.items c.loop-batch.text.items c.loop-batch.batch-index c.batch-item.result c.loop-batch-test.true c.batch-item.is c.loop-batch.invariant;
      short = short.1;
      headed = short.0;
    }

pub loop-batch-preserved : goal.loop-batch-preserved
loop-batch-preserved c =
    next_put (schema_of c.args.schema.now) c.args.batches.now c.args.text.now.items c.loop-batch.text.items c.loop-batch.batch-index c.batch-item.result
    c.loop-batch-test.true c.batch-item.is c.loop-batch.invariant c.put_batch.new.text.items c.in_ok-put_batch.ensures

pub returns : goal.returns
returns c =
    all_put (schema_of c.args.schema.now) c.args.batches.now c.args.text.now.items c.loop-batch.text.items c.loop-batch.batch-index c.loop-batch-test.false
    c.loop-batch.invariant
