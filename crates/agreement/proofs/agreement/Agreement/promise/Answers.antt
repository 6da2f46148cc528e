use Rattle.std.proofs.Common.{sym, subst}
use Rattle.ballots.specs.Ballot.{IsAbove}
use Rattle.ballots.specs.declared.message.Body.TheVariants as body
use Rattle.acceptor.specs.AcceptorState.{promised_at}
use Rattle.agreement.specs.State.{AgreementState}
use Rattle.agreement.specs.Step.{StepIsDue}
use Rattle.agreement.proofs.Answering as answering
use Rattle.agreement.proofs.Parts as parts
use Rattle.agreement.proofs.agreement.Agreement.promise.Goals as goal

pub returns-clause-gives : goal.returns-clause-gives
returns-clause-gives c =
    parts.map_ok _ _ c.sending.result
    (λ step it sender.
    subst (λ (s : AgreementState). StepIsDue s c.args.seen_round sender c.args.slot (body.Prepare c.args.ballot) step) c.self.view_is
    (answering.promise_gives _ c.args.seen_round sender c.args.slot c.args.ballot c.in_ok-report.report step
    (subst (λ (s : AgreementState). IsAbove c.args.ballot (promised_at s.acceptor c.args.slot)) (sym c.self.view_is) c.requires)
    c.in_ok-report.ensures it))
    c.sending.ensures
