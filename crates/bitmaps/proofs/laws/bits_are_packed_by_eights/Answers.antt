use Rattle.bitmaps.proofs.Packing.{is_packed}
use Rattle.bitmaps.proofs.laws.bits_are_packed_by_eights.Goals as goal

pub returns : goal.returns
returns c = is_packed
