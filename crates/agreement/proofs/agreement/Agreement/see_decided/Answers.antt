use Rattle.std.proofs.Common.{Option, IfOk, sym, subst, refl}
use Rattle.ballots.specs.declared.value.Value.{Value}
use Rattle.learner.specs.Calls.{Learns}
use Rattle.learner.specs.Calls as learner_call
use Rattle.learner.specs.Changes.{DecidedNow}
use Rattle.agreement_rules.specs.Views.{Views}
use Rattle.agreement.specs.State.{AgreementState, Has}
use Rattle.agreement.proofs.Parts as parts
use Rattle.agreement.proofs.Learning as learning
use Rattle.agreement.proofs.agreement.Agreement.see_decided.Goals as goal

pub returns-clause-learns : goal.returns-clause-learns
returns-clause-learns c =
    subst (λ (s : AgreementState). IfOk c.see_on_decided.result (λ learned. (views : Views) → Has s views
    → Learns s.config.members views.learner_calls (learner_call.Decided c.args.slot c.args.value.now) c.args.slot learned)) c.self.view_is
    (parts.map_ok _ _ c.see_on_decided.result (λ learned learns views has. learns _ views.learner_calls has.learner_calls) c.see_on_decided.ensures.told)

pub returns-clause-now : goal.returns-clause-now
returns-clause-now c =
    parts.map_ok _ _ c.see_on_decided.result
    (λ learned now. subst (λ (o : Option Value). DecidedNow o c.args.value.now learned) (sym (c.see_on_decided.ensures.same.decided c.args.slot)) now)
    c.see_on_decided.ensures.now

pub returns-clause-stays : goal.returns-clause-stays
returns-clause-stays c views had =
    let has = subst (λ (s : AgreementState). Has s views) (sym c.self.view_is) had in
    learning.stays_on_look c.states_are_what_was_learned.ensures.looks _ c.see_on_decided.new.self c.self.inside.log c.see_on_decided.ensures.same (λ slot. refl) refl views has
