use Rattle.std.proofs.Common.{◌≤◌, length, subst}
use Rattle.agreement_rules.specs.Views.{Views, HasPrefix}
use Rattle.agreement.specs.State.{AgreementState, Has}
use Rattle.agreement.proofs.Knowing as knowing
use Rattle.agreement.proofs.agreement.Agreement.prefix.Goals as goal

pub returns-clause-prefix : goal.returns-clause-prefix
returns-clause-prefix c =
    subst (λ (s : AgreementState). (views : Views) → Has s views → HasPrefix s.config.members views.learner_calls c.prefix.result.now) c.self.view_is
    (λ views has. knowing.prefix_has c.states_are_what_was_learned.ensures.decided _ views has c.prefix.result.now c.prefix.ensures)

pub returns-clause-within : goal.returns-clause-within
returns-clause-within c =
    subst (λ (s : AgreementState). (views : Views) → Has s views → length c.prefix.result.now ≤ s.config.slot_limit) c.self.view_is
    (λ views has. knowing.prefix_within c.states_are_what_was_learned.ensures.decided _ views has c.prefix.result.now c.prefix.ensures)
