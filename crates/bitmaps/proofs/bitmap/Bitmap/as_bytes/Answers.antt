use Rattle.bitmaps.proofs.Lists.{packed}
use Rattle.bitmaps.proofs.bitmap.Bitmap.as_bytes.Goals as goal

pub returns-clause-packed : goal.returns-clause-packed
returns-clause-packed c =
    rw (← c.self.view_is)
    (rw c.as_slice-bytes.ensures.value (packed c.self.inside.bytes.items c.self.inside.length c.self.invariant))

pub returns-clause-bytes : goal.returns-clause-bytes
returns-clause-bytes c = rw (← c.self.view_is) (rw (← c.as_slice-bytes.ensures.value) c.is_packed.ensures)
