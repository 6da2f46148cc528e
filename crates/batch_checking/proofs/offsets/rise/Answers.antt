use Rattle.std.proofs.Common.{◌≡◌, ◌∙◌, ◌+◌, ◌≤ℤ◌, below_more, w64, to_z, of_z, arith}
use Rattle.std.proofs.lemmas.Int.{ints}
use Rattle.batch_types.specs.Placed.{offset_at}
use Rattle.batch_checking.proofs.offsets.rise.Goals as goal

pub loop-row-preserved : goal.loop-row-preserved
loop-row-preserved c =
    let whole : to_z w64 (of_z w64 c.offset_at-next.result) ≡ c.offset_at-next.result = omega (arith, ints) in
    let step : offset_at 4 c.args.offsets.now c.loop-row.row ≤ℤ offset_at 4 c.args.offsets.now (c.loop-row.row + 1) =
    omega (arith, ints, c.if-next-before.false, c.loop-row.invariant.1, c.offset_at-next.ensures) in
    (below_more _ _ c.loop-row.invariant.0 step, whole ∙ c.offset_at-next.ensures)
