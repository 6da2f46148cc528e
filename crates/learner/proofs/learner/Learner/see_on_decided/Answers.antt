use Rattle.learner.proofs.History.{history_stays}
use Rattle.learner.proofs.learner.Learner.see_on_decided.Goals as goal

pub invariant_of-self : goal.invariant_of-self
invariant_of-self c = history_stays c.self.inside.state c.see_on_decided.new.self c.self.invariant c.see_on_decided.ensures.same
