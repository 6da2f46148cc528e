use Rattle.std.proofs.Common.{◌<◌, subst}
use Rattle.batch_columns.specs.Held.{shapes_held, heights}
use Rattle.record_batches.proofs.Adding.{at_error, grows_on}
use Rattle.record_batches.proofs.Inside.{falls}
use Rattle.record_batches.proofs.Lengths.{columns_appended, columns_end}
use Rattle.record_batches.proofs.Rooms.{sound_column, sound_next, sound_end}
use Rattle.record_batches.proofs.body.+append_columns.Goals as goal

pub append_columns-requires : goal.append_columns-requires
append_columns-requires t c = (
  subst (λ n. heights (shapes_held c.inside.result.now) < n) c.decreases
      (falls c.args.columns.now c.loop-column.column-index c.column-item.result c.loop-column-test.true c.column-item.is c.inside.result.now c.inside.ensures.shapes),
  tt,
)

pub loop-column-preserved : goal.loop-column-preserved
loop-column-preserved t c = record {
  appended =
      columns_appended c.args.columns.now c.loop-column.column-index c.column-item.result c.loop-column-test.true c.column-item.is
      c.inside.result.now c.inside.ensures.shapes c.inside.ensures.held c.loop-column.text.items c.append_own.new.text.items
      c.append_columns.new.text.items _ c.in_ok-append_own.ensures.appended c.in_ok-append_columns.ensures.appended
      c.loop-column.invariant.appended;
  sound = λ rest.
      c.loop-column.invariant.sound
      (sound_next c.args.columns.now c.loop-column.column-index c.column-item.result c.loop-column-test.true c.column-item.is
      (sound_column c.column-item.result c.inside.result.now c.inside.ensures.shapes c.inside.ensures.held
      c.in_ok-append_own.ensures.fit c.in_ok-append_own.ensures.room c.in_ok-append_columns.ensures.sound) rest);
  grows =
      grows_on c.args.text.now.items c.append_own.new.text.items c.append_columns.new.text.items
      (grows_on c.args.text.now.items c.loop-column.text.items c.append_own.new.text.items c.loop-column.invariant.grows
      (_, c.in_ok-append_own.ensures.appended))
      (_, c.in_ok-append_columns.ensures.appended);
}

pub returns-clause-appended : goal.returns-clause-appended
returns-clause-appended t c =
    columns_end c.args.columns.now c.loop-column.column-index c.loop-column.text.items _ c.loop-column-test.false c.loop-column.invariant.appended

pub returns-clause-sound : goal.returns-clause-sound
returns-clause-sound t c =
    c.loop-column.invariant.sound (sound_end c.args.columns.now c.loop-column.column-index c.loop-column-test.false)

pub returns-in_err-append_own-clause-err : goal.returns-in_err-append_own-clause-err
returns-in_err-append_own-clause-err t c =
    at_error c.from_residual.result
    (grows_on c.args.text.now.items c.loop-column.text.items c.append_own.new.text.items c.loop-column.invariant.grows
    c.in_err-append_own.ensures.err)

pub returns-in_err-append_columns-clause-err : goal.returns-in_err-append_columns-clause-err
returns-in_err-append_columns-clause-err t c =
    at_error c.from_residual-in_err-append_columns.result
    (grows_on c.args.text.now.items c.append_own.new.text.items c.append_columns.new.text.items
    (grows_on c.args.text.now.items c.loop-column.text.items c.append_own.new.text.items c.loop-column.invariant.grows
    (_, c.in_ok-append_own.ensures.appended))
    c.in_err-append_columns.ensures.err)
