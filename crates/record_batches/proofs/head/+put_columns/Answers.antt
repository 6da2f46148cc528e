use Rattle.std.proofs.Common.{◌<◌, subst}
use Rattle.batch_columns.specs.Held.{shapes_held, heights}
use Rattle.record_batches.proofs.Inside.{falls, few_own, few_rest, few_inside, adds_next, adds_end}
use Rattle.record_batches.proofs.Lengths.{short_own, short_inside, short_rest}
use Rattle.record_batches.proofs.Rooms.{sound_column, sound_next, sound_end}
use Rattle.record_batches.proofs.head.+put_columns.Goals as goal

pub put_own-requires : goal.put_own-requires
put_own-requires t c = record {
  few = few_own c.args.columns.now c.loop-column.column-index c.column-item.result c.loop-column-test.true c.column-item.is c.loop-column.invariant.few;
  short = short_own c.args.columns.now c.loop-column.column-index c.column-item.result c.loop-column-test.true c.column-item.is c.loop-column.writer.end c.loop-column.invariant.short;
}

pub put_columns-requires : goal.put_columns-requires
put_columns-requires t c = (
  subst (λ n. heights (shapes_held c.inside.result.now) < n) c.decreases
      (falls c.args.columns.now c.loop-column.column-index c.column-item.result c.loop-column-test.true c.column-item.is c.inside.result.now c.inside.ensures.shapes),
  (
    few_inside c.args.columns.now c.loop-column.column-index c.column-item.result c.loop-column-test.true c.column-item.is c.inside.result.now
        c.inside.ensures.shapes c.inside.ensures.held c.loop-column.invariant.few,
    short_inside c.args.columns.now c.loop-column.column-index c.column-item.result c.loop-column-test.true c.column-item.is c.loop-column.writer.end c.loop-column.invariant.short
        c.inside.result.now c.inside.ensures.shapes c.inside.ensures.held c.put_own.new.self.end c.in_ok-put_own.ensures.adds.end,
  ),
)

pub loop-column-preserved : goal.loop-column-preserved
loop-column-preserved t c = record {
  few = few_rest c.args.columns.now c.loop-column.column-index c.column-item.result c.loop-column-test.true c.column-item.is c.loop-column.invariant.few;
  short =
      short_rest c.args.columns.now c.loop-column.column-index c.column-item.result c.loop-column-test.true c.column-item.is c.loop-column.writer.end c.loop-column.invariant.short
      c.inside.result.now c.inside.ensures.shapes c.inside.ensures.held c.put_own.new.self.end c.put_columns.new.writer.end
      c.in_ok-put_own.ensures.adds.end c.in_ok-put_columns.ensures.adds.end;
  added = λ after rest.
      c.loop-column.invariant.added after
      (adds_next c.args.columns.now c.loop-column.column-index c.column-item.result c.loop-column-test.true c.column-item.is c.inside.result.now
      c.inside.ensures.shapes c.inside.ensures.held c.loop-column.writer c.put_own.new.self c.put_columns.new.writer after
      c.in_ok-put_own.ensures.adds c.in_ok-put_columns.ensures.adds rest);
  sound = λ rest.
      c.loop-column.invariant.sound
      (sound_next c.args.columns.now c.loop-column.column-index c.column-item.result c.loop-column-test.true c.column-item.is
      (sound_column c.column-item.result c.inside.result.now c.inside.ensures.shapes c.inside.ensures.held
      c.in_ok-put_own.ensures.fit c.in_ok-put_own.ensures.room c.in_ok-put_columns.ensures.sound) rest);
}

pub returns-clause-sound : goal.returns-clause-sound
returns-clause-sound t c =
    c.loop-column.invariant.sound (sound_end c.args.columns.now c.loop-column.column-index c.loop-column-test.false)

pub returns-clause-adds : goal.returns-clause-adds
returns-clause-adds t c =
    c.loop-column.invariant.added c.loop-column.writer
    (adds_end c.loop-column.writer c.args.columns.now c.loop-column.column-index c.loop-column-test.false)
