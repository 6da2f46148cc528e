use Rattle.std.proofs.Common.{◌+◌, arith}
use Rattle.bitmaps.proofs.Counting.{run_bits, counted, zeros_runs, zeros_few}
use Rattle.bitmaps.proofs.bits.zeros_from.Goals as goal

pub overflow_sub-zeros : goal.overflow_sub-zeros
overflow_sub-zeros c =
    (counted c.args.bytes.now (c.args.start + c.loop-done.done) c.min-run.result c.low_bits-set.result c.low_bits-set.ensures.small
    (run_bits c.args.bytes.now (c.args.start + c.loop-done.done) c.min-run.result c.eight_bits.result c.low_bits-set.result
    (omega (arith, c.min-run.ensures)) c.eight_bits.ensures c.low_bits-set.ensures.bits)).1

pub overflow_add-zeros : goal.overflow_add-zeros
overflow_add-zeros c =
    omega (arith, c.loop-done.invariant.1, zeros_few c.args.bytes.now c.args.start c.loop-done.done, c.min-run.ensures, c.ranges.count.fits, c.loop-done-test.true)

pub loop-done-preserved : goal.loop-done-preserved
loop-done-preserved c =
    let one = counted c.args.bytes.now (c.args.start + c.loop-done.done) c.min-run.result c.low_bits-set.result c.low_bits-set.ensures.small
    (run_bits c.args.bytes.now (c.args.start + c.loop-done.done) c.min-run.result c.eight_bits.result c.low_bits-set.result
    (omega (arith, c.min-run.ensures)) c.eight_bits.ensures c.low_bits-set.ensures.bits) in (
      omega (arith, c.min-run.ensures),
      omega (arith, one.0, c.loop-done.invariant.1, zeros_runs c.args.bytes.now c.args.start c.loop-done.done c.min-run.result),
    )
