use Rattle.std.proofs.Common.{◌<◌, arith}
use Rattle.batch_types.specs.Placed.{start_of}
use Rattle.batch_checking.proofs.Spread.{not_end}
use Rattle.batch_checking.proofs.offsets.bounds_around.Goals as goal

pub returns-then-place-start_at-2-clause-order : goal.returns-then-place-start_at-2-clause-order
returns-then-place-start_at-2-clause-order c =
    let less : c.loop-step.low < c.args.count =
    not_end (start_of 4 c.args.offsets.now) c.loop-step.low c.args.count c.args.place c.loop-step.invariant.1 c.loop-step.invariant.3 (omega arith) in
    (less, omega arith)
