use Rattle.std.proofs.Common.{◌<◌, subst}
use Rattle.batch_columns.specs.Held.{shapes_held, heights}
use Rattle.batch_columns.proofs.Beside.{falls}
use Rattle.batch_columns.proofs.copy.+copies.Goals as goal

pub copies-requires : goal.copies-requires
copies-requires t c = (
  subst (λ n. heights (shapes_held c.inside.result.now) < n) c.decreases
      (falls c.args.columns.now c.loop-column.column-index c.column-item.result c.inside.result.now c.loop-column-test.true c.column-item.is
      c.inside.ensures.shapes),
  tt,
)
