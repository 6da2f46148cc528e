use Rattle.std.proofs.Common.{sym}
use Rattle.bitmaps.proofs.Lists.{length_bits}
use Rattle.bitmaps.proofs.bitmap.Bitmap.len.Goals as goal

pub returns : goal.returns
returns c = rw (← c.self.view_is) (sym (length_bits c.self.inside.bytes.items 0 c.self.inside.length))
