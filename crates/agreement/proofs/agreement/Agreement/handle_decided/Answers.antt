use Rattle.std.proofs.Common.{sym, subst}
use Rattle.agreement.specs.declared.step.Change.{Change}
use Rattle.agreement.specs.Step.{CanTake}
use Rattle.agreement.proofs.Learning as learning
use Rattle.agreement.proofs.agreement.Agreement.handle_decided.Goals as goal

pub returns-clause-gives : goal.returns-clause-gives
returns-clause-gives c = λ sender.
    learning.decided_gives c.args.self.now c.see_decided.new.self c.args.seen_round sender c.args.slot c.in_ok-learned.learned c.in_ok-grown.grown.items c.gaining.result
    c.see_decided.ensures.config c.see_decided.ensures.stays c.in_ok-grown.ensures.grows c.args.value c.in_ok-learned.ensures.learns c.gaining.ensures

pub returns-clause-ready : goal.returns-clause-ready
returns-clause-ready c = record {
  same = λ views has. c.see_growth.ensures.stays views (c.see_decided.ensures.stays views has);
  can = subst (λ (x : Change). CanTake c.see_growth.new.self x) (sym c.gaining.ensures.change_is)
      (learning.can_learn c.args.self.now c.see_decided.new.self c.see_growth.new.self c.args.slot c.in_ok-learned.learned c.see_decided.ensures.config c.see_growth.ensures.config
      c.see_growth.ensures.learner c.in_ok-grown.ensures.room c.requires c.args.value c.in_ok-learned.ensures.room c.in_ok-learned.ensures.now);
}
