use Rattle.std.proofs.Common.{◌||◌, ap, arith}
use Rattle.batch_lengths.proofs.Eights.{alike_bits}
use Rattle.batch_lengths.proofs.validity_mask.ValidityMask.alike.Goals as goal

pub returns-clause-alike : goal.returns-clause-alike
returns-clause-alike c k below =
    ap (λ bit. c.args.self.now.all || bit)
    (alike_bits c.args.self.now.set c.args.number k c.lowest_alike-alike.result c.lowest_alike-alike.ensures.alike
    (omega (arith, below, c.min-2.ensures, c.min.ensures)) (omega (arith, below, c.min-2.ensures, c.min.ensures)))
