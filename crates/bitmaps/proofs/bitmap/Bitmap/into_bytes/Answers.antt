use Rattle.bitmaps.proofs.bitmap.Bitmap.into_bytes.Goals as goal

pub returns : goal.returns
returns c = rw (← c.self.view_is) (rw (← c.as_slice.ensures.value) c.is_packed.ensures)
