use Rattle.std.proofs.Common.{◌<◌, ◌-◌, ◌^◌, subst}
use Rattle.batch_columns.specs.Held.{shapes_held, heights}
use Rattle.record_batches.proofs.Inside.{falls}
use Rattle.record_batches.proofs.Lengths.{length_next}
use Rattle.record_batches.proofs.Rooms.{sound_column, sound_next, sound_end}
use Rattle.record_batches.proofs.length.+columns_length.Goals as goal

pub columns_length-requires : goal.columns_length-requires
columns_length-requires t c = (
  subst (λ n. heights (shapes_held c.inside.result.now) < n) c.decreases
      (falls c.args.columns.now c.loop-column.column-index c.column-item.result c.loop-column-test.true c.column-item.is c.inside.result.now c.inside.ensures.shapes),
  tt,
)

pub loop-column-preserved : goal.loop-column-preserved
loop-column-preserved t c = record {
  length_is =
      length_next (2 ^ 64 - 1) c.args.columns.now c.loop-column.column-index c.column-item.result c.loop-column-test.true c.column-item.is
      c.inside.result.now c.inside.ensures.shapes c.inside.ensures.held c.loop-column.total c.own_length.result c.saturating_add.result
      c.columns_length.result c.saturating_add-total.result c.loop-column.invariant.length_is c.own_length.ensures.length c.saturating_add.ensures
      c.columns_length.ensures.length c.saturating_add-total.ensures;
  sound = λ rest.
      c.loop-column.invariant.sound
      (sound_next c.args.columns.now c.loop-column.column-index c.column-item.result c.loop-column-test.true c.column-item.is
      (sound_column c.column-item.result c.inside.result.now c.inside.ensures.shapes c.inside.ensures.held
      c.own_length.ensures.fit c.own_length.ensures.room c.columns_length.ensures.sound) rest);
}

pub returns-clause-sound : goal.returns-clause-sound
returns-clause-sound t c =
    c.loop-column.invariant.sound (sound_end c.args.columns.now c.loop-column.column-index c.loop-column-test.false)
