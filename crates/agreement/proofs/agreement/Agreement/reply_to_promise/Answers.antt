use Rattle.std.proofs.Common.{IfOk, subst}
use Rattle.ballots.specs.declared.message.Body.TheVariants as body
use Rattle.agreement.specs.State.{AgreementState}
use Rattle.agreement.specs.Step.{StepIsDue}
use Rattle.agreement.proofs.Proposing as proposing
use Rattle.agreement.proofs.Parts as parts
use Rattle.agreement.proofs.agreement.Agreement.reply_to_promise.Goals as goal

pub returns-clause-gives : goal.returns-clause-gives
returns-clause-gives c =
    subst (λ (s : AgreementState). IfOk c.sending_accept.result (StepIsDue s c.args.seen_round c.args.sender c.args.slot (body.Promise c.args.ballot c.args.report))) c.self.view_is
    (parts.map_ok _ _ c.sending_accept.result
    (λ step it. proposing.promised_gives _ c.args.seen_round c.args.sender c.args.slot c.args.ballot c.args.report c.in_ok-accept.accept step c.in_ok-accept.ensures.answers it)
    c.sending_accept.ensures)
