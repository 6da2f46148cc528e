use Rattle.std.proofs.Common.{◌<◌, [], subst}
use Rattle.agreement.specs.declared.step.Change.TheVariants.{Nothing}
use Rattle.agreement.specs.State.{AgreementState}
use Rattle.agreement.specs.Step.{Sends}
use Rattle.agreement.proofs.Parts as parts
use Rattle.agreement.proofs.Proposing as proposing
use Rattle.agreement.proofs.agreement.Agreement.plan_ask.Goals as goal

pub returns-in-Some-clause-gives : goal.returns-in-Some-clause-gives
returns-in-Some-clause-gives c =
    parts.map_ok _ _ c.ask_from.result (λ step it. proposing.question_gives c.args.self.now c.in-Some.slot step c.in-Some.ensures it) c.ask_from.ensures

pub returns-in-Some-clause-memory : goal.returns-in-Some-clause-memory
returns-in-Some-clause-memory c =
    parts.any_err _ c.ask_from.result
    (λ views values has prefix.
    let free = c.in-Some.ensures views values has prefix in
    subst (λ n. n < c.args.self.now.config.slot_limit) free.0 free.1)

pub returns-in-None-clause-gives : goal.returns-in-None-clause-gives
returns-in-None-clause-gives c =
    proposing.no_question_gives c.args.self.now c.quiet.result c.in-None.ensures
    (subst (λ (s : AgreementState). Sends c.quiet.result [] s.seen_round Nothing) c.self.view_is c.quiet.ensures)
