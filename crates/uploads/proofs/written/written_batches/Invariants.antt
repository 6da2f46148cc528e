use Rattle.std.proofs.Common.{length}
use Rattle.header_types.specs.Views.{schema_of}
use Rattle.uploads.proofs.Remade.{StillMade}
use Rattle.uploads.proofs.written.written_batches.Given as goal

abbrev pub invariant-loop-header : goal.invariant-loop-header
invariant-loop-header l = StillMade (schema_of l.schema) l.fn.batches l.left l.made.items

abbrev pub decreases-loop-header : goal.decreases-loop-header
decreases-loop-header l = length l.left
