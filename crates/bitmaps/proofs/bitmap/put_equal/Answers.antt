use Rattle.std.proofs.Common.{arith}
use Rattle.bitmaps.proofs.Running.{equal_further, kept_further}
use Rattle.bitmaps.proofs.bitmap.put_equal.Goals as goal

pub loop-done-preserved : goal.loop-done-preserved
loop-done-preserved c =
    let held = c.loop-done.invariant in
    let kept = kept_further c.put_bits.new.bytes.items c.args.from c.loop-done.done c.min-run.result c.put_bits.ensures.kept in (
      omega (arith, c.min-run.ensures),
      kept,
      omega (arith, c.min-run.ensures, kept.enough, held.1.enough, held.2, c.put_bits.ensures.capacity, c.loop-done-test.true),
      equal_further c.args.bytes.now.items c.loop-done.bytes.items c.put_bits.new.bytes.items c.args.from
          c.loop-done.done c.min-run.result c.eight_equal-eight.result c.low_bits-byte.result c.args.bit (omega (arith, c.min-run.ensures))
          c.eight_equal-eight.ensures c.low_bits-byte.ensures.bits c.put_bits.ensures.before c.put_bits.ensures.put held.3,
    )

pub put_bits-requires-clause-some : goal.put_bits-requires-clause-some
put_bits-requires-clause-some c =
    (omega (arith, c.min-run.ensures, c.loop-done-test.true), omega (arith, c.min-run.ensures), c.low_bits-byte.ensures.small)
