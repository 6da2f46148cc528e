use Rattle.std.proofs.Common.{arith}
use Rattle.bitmaps.proofs.Lists.{length_bits}
use Rattle.bitmaps.proofs.bitmap.Bitmap.push_run.Goals as goal

pub returns-clause-fits : goal.returns-clause-fits
returns-clause-fits c =
    rw (← c.self.view_is)
    (omega (arith, c.in-Some.ensures, length_bits c.self.inside.bytes.items 0 c.self.inside.length))
