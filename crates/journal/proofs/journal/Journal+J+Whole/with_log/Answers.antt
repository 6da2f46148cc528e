use Rattle.std.proofs.Common.{None, Some, ap, ◌∙◌}
use Rattle.journal.specs.Recalled.{Recalled}
use Rattle.journal.specs.Journaled.{Journaled, journaled}
use Rattle.journal.proofs.Entering.{starts_kept}
use Rattle.journal.proofs.Logging.{nothing_logged}
use Rattle.journal.proofs.journal.Journal+J+Whole.with_log.Goals as goal

pub invariant_of-result : goal.invariant_of-result
invariant_of-result g c =
    let log = Some c.new-2.result in
    let journal : Journaled = journaled g.J.Beginning.start c.whole.result log None in (
      starts_kept c.nothing_reaches_the_start.ensures c.args.config g.J.Beginning.start c.whole.result c.new.result log None c.whole.ensures.recalled c.new.ensures.trace c.new.ensures.recovered,
      nothing_logged journal c.new-2.result (ap (λ (r : Recalled). r.trace.steps) c.whole.ensures.recalled ∙ c.new.ensures.trace.steps_are) c.new-2.ensures,
      c.whole.ensures.whole,
    )
