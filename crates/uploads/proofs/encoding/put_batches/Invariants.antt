use Rattle.std.proofs.Common.{drop}
use Rattle.header_types.specs.Views.{schema_of}
use Rattle.uploads.proofs.Puts.{StillPut}
use Rattle.uploads.proofs.encoding.put_batches.Given as goal

abbrev pub invariant-loop-batch : goal.invariant-loop-batch
invariant-loop-batch l = StillPut (schema_of l.schema) l.batches l.fn.text.items l.text.items (drop l.batch-index l.batches)
