use Rattle.std.proofs.Common.{subst}
use Rattle.std.specs.Option.{MatchOption}
use Rattle.learner.specs.Calls.{IsLearned}
use Rattle.agreement_rules.specs.Views.{Views, IsFree}
use Rattle.agreement.specs.State.{AgreementState, Has}
use Rattle.agreement.proofs.Knowing as knowing
use Rattle.agreement.proofs.agreement.Agreement.learned.Goals as goal

pub returns : goal.returns
returns c =
    subst (λ (s : AgreementState). (views : Views) → Has s views
    → MatchOption c.decided.result (IsFree s.config.members views.learner_calls c.args.slot) (λ v. IsLearned s.config.members views.learner_calls c.args.slot v.now)) c.self.view_is
    (λ views has. knowing.learned_where c.states_are_what_was_learned.ensures.decided _ views has c.args.slot c.decided.result c.decided.ensures.value)
