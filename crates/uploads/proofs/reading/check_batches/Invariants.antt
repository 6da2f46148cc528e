use Rattle.std.proofs.Common.{length}
use Rattle.header_types.specs.Views.{schema_of}
use Rattle.uploads.proofs.Batched.{StillRows}
use Rattle.uploads.proofs.reading.check_batches.Given as goal

abbrev pub invariant-loop-header : goal.invariant-loop-header
invariant-loop-header l = StillRows (schema_of l.schema) l.batches l.left

abbrev pub decreases-loop-header : goal.decreases-loop-header
decreases-loop-header l = length l.left
