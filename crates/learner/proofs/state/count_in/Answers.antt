use Rattle.std.proofs.Common.{ap, ◌∙◌}
use Rattle.learner.specs.State.{tally_in}
use Rattle.learner.proofs.state.count_in.Goals as goal

pub returns-clause-others : goal.returns-clause-others
returns-clause-others c = λ b apart. c.in-Ok.ensures.updates.2 b apart ∙ ap (λ m. tally_in m b) c.get_mut.follows.holds-at-none
