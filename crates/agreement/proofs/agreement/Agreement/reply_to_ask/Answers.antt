use Rattle.std.proofs.Common.{subst}
use Rattle.ballots.specs.declared.message.Body.TheVariants as body
use Rattle.agreement.specs.State.{AgreementState}
use Rattle.agreement.specs.Step.{StepIsDue}
use Rattle.agreement.proofs.Proposing as proposing
use Rattle.agreement.proofs.agreement.Agreement.reply_to_ask.Goals as goal

pub returns-clause-gives : goal.returns-clause-gives
returns-clause-gives c sender =
    subst (λ (s : AgreementState). StepIsDue s c.args.seen_round sender c.args.slot body.Ask c.step_with.result) c.self.view_is
    (proposing.asked_gives c.states_are_what_was_learned.ensures.decided _ c.args.seen_round sender c.args.slot c.prefix-prefix.result.now c.in_ok-messages.messages.items c.step_with.result
    c.prefix-prefix.ensures (c.in_ok-messages.ensures.messages c.prefix-prefix.result.now c.prefix-prefix.ensures) c.step_with.ensures)
