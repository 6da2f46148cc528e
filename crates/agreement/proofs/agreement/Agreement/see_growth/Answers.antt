use Rattle.std.proofs.Common.{◌≡◌, [], ◌∷◌, ◌++◌, IfOk, sym, subst}
use Rattle.learner.specs.Calls.{LearnerCall, slot_of, Learns}
use Rattle.agreement_rules.specs.Views.{Views}
use Rattle.agreement.specs.State.{AgreementState, Has}
use Rattle.agreement.specs.Step.{Grows}
use Rattle.agreement.proofs.Parts as parts
use Rattle.agreement.proofs.Knowing as knowing
use Rattle.agreement.proofs.Learning as learning
use Rattle.agreement.proofs.agreement.Agreement.see_growth.Goals as goal

pub returns-clause-grows : goal.returns-clause-grows
returns-clause-grows c =
    subst (λ (s : AgreementState). IfOk c.gain.result (λ grown. (views : Views) (call : LearnerCall) → Has s views → slot_of call ≡ c.args.slot
    → Learns s.config.members views.learner_calls call c.args.slot c.args.learned.now → Grows s.config.members views.learner_calls (views.learner_calls ++ call ∷ []) grown.items)) c.self.view_is
    (parts.map_ok _ _ c.gain.result
    (λ grown grows views call has there learns.
    learning.grows_there c.a_call_adds_to_its_slot.ensures _ views.learner_calls call c.args.slot c.args.learned.now _ grown.items
    (knowing.log_knows c.states_are_what_was_learned.ensures.decided _ views has) there learns grows)
    c.gain.ensures.grows)

pub returns-clause-stays : goal.returns-clause-stays
returns-clause-stays c views had =
    let has = subst (λ (s : AgreementState). Has s views) (sym c.self.view_is) had in
    learning.stays_on_look c.states_are_what_was_learned.ensures.looks _ c.self.inside.learner c.gain.new.log (learning.learner_stays c.self.inside.learner) c.gain.ensures.same c.gain.ensures.node views has
