use Rattle.std.proofs.Common.{◌+◌, ◌<◌, ◌^◌, drop, length, pos, ◌≤ℤ◌}
use Rattle.std.specs.List.{AllByRecursion}
use Rattle.batch_types.specs.Canonical.{body_with}
use Rattle.batch_types.specs.LaysOut.{values_limit}
use Rattle.batch_columns.specs.Held.{shapes_held, heights}
use Rattle.record_batches.specs.Adds.{Adds}
use Rattle.record_batches.specs.Parts.{parts_held}
use Rattle.record_batches.specs.Sound.{AreSound}
use Rattle.record_batches.specs.declared.head.HeadWriter.{HeadWriter}
use Rattle.record_batches.proofs.head.+put_columns.Given as goal

abbrev pub decreases-put_columns : goal.decreases-put_columns
decreases-put_columns l = heights (shapes_held l.columns.now)

abbrev pub invariant-loop-column : goal.invariant-loop-column
invariant-loop-column l = record {
  few : AllByRecursion (λ node. node.0 ≤ℤ pos values_limit) (parts_held (drop l.column-index l.columns)).nodes;
  short : l.writer.end + length (body_with (parts_held (drop l.column-index l.columns)).buffers) < 2 ^ 63;
  added : (after : HeadWriter) → Adds l.writer after (parts_held (drop l.column-index l.columns)) → Adds l.fn.writer after (parts_held l.columns);
  sound : AreSound (drop l.column-index l.columns) → AreSound l.columns;
}
