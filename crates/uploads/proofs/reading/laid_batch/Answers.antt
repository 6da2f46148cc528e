use Rattle.std.proofs.Common.{arith}
use Rattle.header_types.specs.HeaderViews.{head_of}
use Rattle.header_types.specs.Views.{schema_of}
use Rattle.uploads.proofs.Shown.{longer_than, fault_stands}
use Rattle.uploads.proofs.reading.laid_batch.Goals as goal

pub returns-in-Ok-None-clause-fault : goal.returns-in-Ok-None-clause-fault
returns-in-Ok-None-clause-fault c = λ is rows laid.
    longer_than (schema_of c.args.schema.now) (head_of c.args.head.now) c.args.body.now c.batches_are_one.ensures.batch c.requires.short
    c.in-Ok-None.field-0 c.in-Ok-None.field-0-is c.in-Ok-None.ensures.longer rows laid

pub returns-in-Err-clause-fault : goal.returns-in-Err-clause-fault
returns-in-Err-clause-fault c = λ is rows laid.
    absurd (fault_stands (schema_of c.args.schema.now) (head_of c.args.head.now) c.args.body.now c.batches_are_one.ensures.apart c.in-Err.fault
    (c.fault_of_batch.ensures is) c.in-Err.ensures.fault rows laid)
