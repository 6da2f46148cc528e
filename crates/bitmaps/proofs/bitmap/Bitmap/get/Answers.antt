use Rattle.bitmaps.proofs.Lists.{found, not_found}
use Rattle.bitmaps.proofs.bitmap.Bitmap.get.Goals as goal

pub returns-then-index-self : goal.returns-then-index-self
returns-then-index-self c =
    rw (← c.self.view_is)
    (rw c.bit.ensures (rw c.as_slice.ensures.value (found c.self.inside.bytes.items c.self.inside.length c.args.index c.if-index-self.true)))

pub returns-else-index-self : goal.returns-else-index-self
returns-else-index-self c = rw (← c.self.view_is) (not_found c.self.inside.bytes.items c.self.inside.length c.args.index c.if-index-self.false)
