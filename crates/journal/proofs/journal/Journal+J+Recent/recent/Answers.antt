use Rattle.std.proofs.Common.{None, Some, ap, ◌∙◌}
use Rattle.journal.specs.Recalled.{Recalled}
use Rattle.journal.specs.Journaled.{Journaled, journaled}
use Rattle.journal.proofs.Entering.{starts_kept}
use Rattle.journal.proofs.Logging.{nothing_logged}
use Rattle.journal.proofs.journal.Journal+J+Recent.recent.Goals as goal

pub invariant_of-result : goal.invariant_of-result
invariant_of-result g c =
    let log = Some c.new-2.result in
    let journal : Journaled = journaled g.J.Beginning.start c.recent.result log None in (
      starts_kept c.nothing_reaches_the_start.ensures c.args.config g.J.Beginning.start c.recent.result c.in_ok-steps.steps log None c.recent.ensures.recalled c.in_ok-steps.ensures.trace c.in_ok-steps.ensures.recovered,
      nothing_logged journal c.new-2.result (ap (λ (r : Recalled). r.trace.steps) c.recent.ensures.recalled ∙ c.in_ok-steps.ensures.trace.steps_are) c.new-2.ensures,
      c.recent.ensures.whole,
    )
