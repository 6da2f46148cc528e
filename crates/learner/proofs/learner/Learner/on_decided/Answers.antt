use Rattle.std.proofs.Common.{sym, subst}
use Rattle.learner.specs.Calls.{Decided}
use Rattle.learner.specs.Learned.{StateAfter}
use Rattle.learner.proofs.History.{history_goes_on}
use Rattle.learner.proofs.learner.Learner.on_decided.Goals as goal

pub invariant_of-self : goal.invariant_of-self
invariant_of-self c = history_goes_on (Decided c.args.slot c.args.value) c.self.inside.state c.on_decided.new.self c.self.invariant c.on_decided.ensures.learned

pub returns-clause-learned : goal.returns-clause-learned
returns-clause-learned c = λ n calls after. c.on_decided.ensures.learned n calls (subst (StateAfter n calls) (sym c.self.view_is) after)
