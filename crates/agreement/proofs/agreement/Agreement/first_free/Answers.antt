use Rattle.std.proofs.Common.{◌≡◌, ◌<◌, ◌≤◌, List, length, subst, refl, arith}
use Rattle.std.specs.Option.{MatchOption}
use Rattle.ballots.specs.declared.value.Value.{Value}
use Rattle.agreement_rules.specs.Views.{Views, HasPrefix}
use Rattle.agreement.specs.State.{AgreementState, Has}
use Rattle.agreement.proofs.Knowing as knowing
use Rattle.agreement.proofs.agreement.Agreement.first_free.Goals as goal

pub returns-then-prefix-slot_limit : goal.returns-then-prefix-slot_limit
returns-then-prefix-slot_limit c =
    let all : c.self.inside.config.slot_limit ≤ length c.prefix-prefix.result.now = omega (arith, c.slot_limit.ensures.value) in
    subst (λ (s : AgreementState). (views : Views) (values : List Value) → Has s views → HasPrefix s.config.members views.learner_calls values → length values ≡ s.config.slot_limit) c.self.view_is
    (λ views values has prefix. knowing.all_learned c.states_are_what_was_learned.ensures.decided _ views has c.prefixes_are_one.ensures.one c.prefix-prefix.result.now values c.prefix-prefix.ensures prefix all)

pub returns : goal.returns
returns c =
    let some : length c.prefix-prefix.result.now < c.self.inside.config.slot_limit = omega (arith, c.slot_limit.ensures.value) in
    subst (λ (s : AgreementState). (views : Views) (values : List Value) → Has s views → HasPrefix s.config.members views.learner_calls values
    → MatchOption c.new.result (length values ≡ s.config.slot_limit) (λ slot. (slot ≡ length values) × (slot < s.config.slot_limit))) c.self.view_is
    (λ views values has prefix. knowing.first_free_is c.states_are_what_was_learned.ensures.decided _ views has c.prefixes_are_one.ensures.one c.prefix-prefix.result.now values c.prefix-prefix.ensures prefix
    c.new.result (length c.prefix-prefix.result.now) refl some c.new.ensures.within c.new.ensures.value)
