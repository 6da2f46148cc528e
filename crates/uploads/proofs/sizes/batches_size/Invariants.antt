use Rattle.std.proofs.Common.{drop}
use Rattle.header_types.specs.Views.{schema_of}
use Rattle.uploads.proofs.Counts.{StillSized}
use Rattle.uploads.proofs.sizes.batches_size.Given as goal

abbrev pub invariant-loop-batch : goal.invariant-loop-batch
invariant-loop-batch l = StillSized (schema_of l.schema) l.id l.batches l.batch-index l.total (drop l.batch-index l.batches)
