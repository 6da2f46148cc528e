use Rattle.std.proofs.Common.{◌≡◌, ◌++◌, drop}
use Rattle.batch_types.specs.Canonical.{body_with}
use Rattle.batch_columns.specs.Held.{shapes_held, heights}
use Rattle.record_batches.specs.Adds.{Grows}
use Rattle.record_batches.specs.Parts.{parts_held}
use Rattle.record_batches.specs.Sound.{AreSound}
use Rattle.record_batches.proofs.body.+append_columns.Given as goal

abbrev pub decreases-append_columns : goal.decreases-append_columns
decreases-append_columns l = heights (shapes_held l.columns.now)

abbrev pub invariant-loop-column : goal.invariant-loop-column
invariant-loop-column l = record {
  appended : l.text.items ++ body_with (parts_held (drop l.column-index l.columns)).buffers
      ≡ l.fn.text.items ++ body_with (parts_held l.columns).buffers;
  sound : AreSound (drop l.column-index l.columns) → AreSound l.columns;
  grows : Grows l.fn.text.items l.text.items;
}
