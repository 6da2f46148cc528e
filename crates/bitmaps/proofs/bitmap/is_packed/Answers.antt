use Rattle.std.proofs.Common.{arith}
use Rattle.bitmaps.specs.Bits.{bits_of}
use Rattle.bitmaps.proofs.Lists.{packed}
use Rattle.bitmaps.proofs.Packing.{only_form}
use Rattle.bitmaps.proofs.bitmap.is_packed.Goals as goal

pub returns : goal.returns
returns c =
    only_form (bits_of c.args.bytes.now 0 c.args.length) c.args.bytes.now (λ k. omega (arith, c.type_inv.bytes k))
    (packed c.args.bytes.now c.args.length c.requires)
