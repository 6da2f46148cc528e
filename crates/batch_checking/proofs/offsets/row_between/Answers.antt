use Rattle.std.proofs.Common.{◌≡◌, ◌+◌, ◌<◌, subst, arith}
use Rattle.batch_types.specs.Placed.{start_of}
use Rattle.batch_checking.proofs.offsets.row_between.Goals as goal

pub returns-clause-stands : goal.returns-clause-stands
returns-clause-stands c =
    let next : c.loop-high.high ≡ c.loop-high.low + 1 = omega arith in
    (c.loop-high.invariant.2, subst (λ h. c.args.place < start_of 4 c.args.offsets.now h) next c.loop-high.invariant.3)
