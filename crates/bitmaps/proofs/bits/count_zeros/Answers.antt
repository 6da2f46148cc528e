use Rattle.std.proofs.Common.{◌≡◌, ap, ◌+◌, ◌-◌, ◌*◌, arith, length}
use Rattle.bitmaps.specs.Bits.{bits_of, zeros}
use Rattle.bitmaps.proofs.Counting.{zeros_runs, zeros_few}
use Rattle.bitmaps.proofs.Wholes.{whole_bits}
use Rattle.bitmaps.proofs.bits.count_zeros.Goals as goal

pub overflow_add-result : goal.overflow_add-result
overflow_add-result c =
    let whole = c.whole_bytes-whole.result.now in
    let done = 8 * length whole in
    omega (arith, c.requires, c.whole_bytes-whole.ensures.few, c.zeros_in.ensures, c.zeros_from.ensures, zeros_few whole 0 done, zeros_few c.args.bytes.now (c.args.start + done) (c.args.count - done))

pub returns : goal.returns
returns c =
    let whole = c.whole_bytes-whole.result.now in
    let done = 8 * length whole in
    let same = whole_bits c.args.bytes.now whole c.args.start (length whole) c.whole_bytes-whole.ensures.aligned c.whole_bytes-whole.ensures.bytes in
    let sum : done + (c.args.count - done) ≡ c.args.count = omega (arith, c.whole_bytes-whole.ensures.few) in
    let all = zeros_runs c.args.bytes.now c.args.start done (c.args.count - done) in
    omega (arith, c.zeros_in.ensures, c.zeros_from.ensures, ap zeros same, all, ap (λ k. zeros (bits_of c.args.bytes.now c.args.start k)) sum)
