use Rattle.std.proofs.Common.{None}
use Rattle.journal.proofs.Entering.{starts_kept}
use Rattle.journal.proofs.journal.Journal+J+Whole.new.Goals as goal

pub invariant_of-result : goal.invariant_of-result
invariant_of-result g c = (
  starts_kept c.nothing_reaches_the_start.ensures c.args.config g.J.Beginning.start c.whole.result c.new.result None None c.whole.ensures.recalled c.new.ensures.trace c.new.ensures.recovered,
  tt,
  c.whole.ensures.whole,
)
