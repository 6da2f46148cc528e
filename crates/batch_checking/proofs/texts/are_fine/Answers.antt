use Rattle.std.proofs.Common.{refl, below_more}
use Rattle.batch_checking.proofs.texts.are_fine.Goals as goal

pub loop-row-preserved : goal.loop-row-preserved
loop-row-preserved c = (c.is_fine.ensures.room, below_more _ _ c.loop-row.invariant.1 (c.if-not-is_fine.ensures.fine.0 refl))
