use Rattle.std.proofs.Common.{arith, pow_mono}
use Rattle.bitmaps.proofs.Bytes.{kept_low, kept_whole}
use Rattle.bitmaps.proofs.bits.low_bits.Goals as goal

pub returns-then-count-lt8-clause-bits : goal.returns-then-count-lt8-clause-bits
returns-then-count-lt8-clause-bits c = λ i. kept_low c.args.byte c.args.count i c.if-count-lt8.true

pub returns-else-count-lt8-clause-bits : goal.returns-else-count-lt8-clause-bits
returns-else-count-lt8-clause-bits c = λ i. kept_whole c.args.byte c.args.count i c.ranges.byte.fits c.if-count-lt8.false

pub returns-else-count-lt8-clause-small : goal.returns-else-count-lt8-clause-small
returns-else-count-lt8-clause-small c = omega (arith, c.ranges.byte.fits, pow_mono c.if-count-lt8.false)
