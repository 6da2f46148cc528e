use Rattle.header_types.specs.Views.{schema_of}
use Rattle.header_types.specs.HeaderViews.{head_of}
use Rattle.batch_checking.proofs.Whole.{all_laid_out, fault_told}
use Rattle.batch_checking.proofs.batch.check_batch.Goals as goal

pub returns-in-Ok-clause-kept : goal.returns-in-Ok-clause-kept
returns-in-Ok-clause-kept c =
    all_laid_out c.check_columns.result (schema_of c.args.schema.now) (head_of c.args.head.now) c.args.body.now
    (c.sources_are_the_columns.ensures (schema_of c.args.schema.now) (head_of c.args.head.now) c.in-Ok.ensures.kept.1.1.0 c.in-Ok.ensures.kept.1.1.1.0)
    c.in-Ok.ensures.kept c.check_columns.ensures.sound

pub returns-in-Ok-clause-fault : goal.returns-in-Ok-clause-fault
returns-in-Ok-clause-fault c =
    fault_told c.check_columns.result (schema_of c.args.schema.now) (head_of c.args.head.now) c.args.body.now
    (c.sources_are_the_columns.ensures (schema_of c.args.schema.now) (head_of c.args.head.now) c.in-Ok.ensures.kept.1.1.0 c.in-Ok.ensures.kept.1.1.1.0)
    c.in-Ok.ensures.kept c.check_columns.ensures.fault
