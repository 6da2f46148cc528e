use Rattle.std.proofs.Common.{refl, subst, below_more}
use Rattle.std.specs.Str.{IsCharBoundary}
use Rattle.batch_checking.proofs.texts.are_boundaries.Goals as goal

pub loop-row-preserved : goal.loop-row-preserved
loop-row-preserved c =
    below_more _ _ c.loop-row.invariant (subst (IsCharBoundary c.args.text.now) c.start_at.ensures (c.if-not-is_char_boundary.ensures.test.0 refl))
