use Rattle.std.proofs.Common.{◌≡◌, ◌-◌, ◌^◌, min, length, take, drop}
use Rattle.batch_types.specs.Canonical.{body_with}
use Rattle.batch_columns.specs.Held.{shapes_held, heights}
use Rattle.record_batches.specs.Parts.{parts_held}
use Rattle.record_batches.specs.Sound.{AreSound}
use Rattle.record_batches.proofs.length.+columns_length.Given as goal

abbrev pub decreases-columns_length : goal.decreases-columns_length
decreases-columns_length l = heights (shapes_held l.columns.now)

abbrev pub invariant-loop-column : goal.invariant-loop-column
invariant-loop-column l = record {
  length_is : l.total ≡ min (length (body_with (parts_held (take l.column-index l.columns)).buffers)) (2 ^ 64 - 1);
  sound : AreSound (drop l.column-index l.columns) → AreSound l.columns;
}
