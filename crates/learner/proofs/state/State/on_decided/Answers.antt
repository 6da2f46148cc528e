use Rattle.std.proofs.Common.{rules, Some, refl, sym, ap, ◌∙◌}
use Rattle.std.specs.Option.{option_or}
use Rattle.learner.specs.Calls.{Decided}
use Rattle.learner.proofs.Lookups.{learned_is_kept, not_both}
use Rattle.learner.proofs.Learning.{learnt_decides, learnt_over_learned}
use Rattle.learner.proofs.state.State.on_decided.Goals as goal

pub returns-then-is_open-clause-learned : goal.returns-then-is_open-clause-learned
returns-then-is_open-clause-learned c = λ n calls l.
    learnt_decides n calls c.args.slot c.args.value c.args.self.now c.learn.new.self l (search rules steps 300000) c.learn.ensures

pub returns-else-is_open-clause-learned : goal.returns-else-is_open-clause-learned
returns-else-is_open-clause-learned c = λ n calls l.
    learnt_over_learned n calls (Decided c.args.slot c.args.value) c.args.self.now l (search rules steps 300000)

pub returns-then-is_open-clause-here : goal.returns-then-is_open-clause-here
returns-then-is_open-clause-here c = c.learn.ensures.here ∙ sym (ap (λ o. option_or o (Some c.args.value)) (c.is_open.ensures.0 c.if-is_open.true))

pub returns-then-is_open-clause-others : goal.returns-then-is_open-clause-others
returns-then-is_open-clause-others c = λ other differs. c.learn.ensures.decided other differs

pub returns-else-is_open-clause-here : goal.returns-else-is_open-clause-here
returns-else-is_open-clause-here c = learned_is_kept _ c.args.value (λ none. not_both _ (c.is_open.ensures.1 none) c.if-is_open.false)

pub returns-else-is_open-clause-others : goal.returns-else-is_open-clause-others
returns-else-is_open-clause-others c = λ other differs. refl
