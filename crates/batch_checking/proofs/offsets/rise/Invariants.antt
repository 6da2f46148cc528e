use Rattle.std.proofs.Common.{◌≡◌}
use Rattle.batch_types.specs.Placed.{offset_at}
use Rattle.batch_checking.specs.SourceRules.{Rises}
use Rattle.batch_checking.proofs.offsets.rise.Given as goal

abbrev pub invariant-loop-row : goal.invariant-loop-row
invariant-loop-row l = Rises l.offsets l.row × (l.before ≡ offset_at 4 l.offsets l.row)
