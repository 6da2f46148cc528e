use Rattle.std.proofs.Common.{◌↔◌, length, IsTrue, List, subst}
use Rattle.ballots.specs.declared.value.Value.{Value}
use Rattle.agreement_rules.specs.Views.{Views, HasPrefix, HasGap}
use Rattle.agreement.specs.State.{AgreementState, Has}
use Rattle.agreement.proofs.Knowing as knowing
use Rattle.agreement.proofs.agreement.Agreement.has_gap.Goals as goal

pub returns : goal.returns
returns c =
    subst (λ (s : AgreementState). (views : Views) (values : List Value) → Has s views → HasPrefix s.config.members views.learner_calls values
    → IsTrue c.has_gap.result ↔ HasGap s.config.members views.learner_calls (length values)) c.self.view_is
    (λ views values has prefix. knowing.has_gap_where c.states_are_what_was_learned.ensures.decided _ views has values c.has_gap.result c.has_gap.ensures prefix)
