use Rattle.std.proofs.Common.{arith, ◌/◌}
use Rattle.uploads.proofs.CallerLemmas.{digits_few}
use Rattle.uploads.proofs.lengths.+varint_length.Goals as goal

pub overflow_add-result : goal.overflow_add-result
overflow_add-result t c =
    omega (arith, c.varint_length.ensures 9 (omega (arith, c.ranges.number.fits)), digits_few 10 (c.args.number / 128))
