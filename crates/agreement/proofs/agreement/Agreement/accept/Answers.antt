use Rattle.std.proofs.Common.{rules, ◌≡◌, [], ◌∷◌, sym, subst}
use Rattle.ballots.specs.Ballot.{IsAtLeast}
use Rattle.ballots.specs.Message.{message}
use Rattle.ballots.specs.declared.acceptance.Acceptance.{Acceptance}
use Rattle.ballots.specs.declared.record.Record.TheVariants as kept_as
use Rattle.agreement.specs.declared.step.Change.TheVariants.{Answered}
use Rattle.ballots.specs.declared.message.Body.TheVariants as body
use Rattle.acceptor.specs.AcceptorState.{promised_at}
use Rattle.agreement.specs.State.{AgreementState}
use Rattle.agreement.specs.Step.{Sends, StepIsDue}
use Rattle.agreement.proofs.Answering as answering
use Rattle.agreement.proofs.Parts as parts
use Rattle.agreement.proofs.agreement.Agreement.accept.Goals as goal

pub returns-clause-gives : goal.returns-clause-gives
returns-clause-gives c =
    parts.map_ok _ _ c.sending.result
    (λ step it sender.
    subst (λ (s : AgreementState). StepIsDue s c.args.seen_round sender c.args.slot (body.Accept c.args.proposal) step) c.self.view_is
    (answering.grant_gives _ c.args.seen_round sender c.args.slot c.args.proposal step
    (subst (λ (s : AgreementState). IsAtLeast c.args.proposal.ballot (promised_at s.acceptor c.args.slot)) (sym c.self.view_is) c.requires)
    (subst (λ (a : Acceptance). Sends step (message c.self.inside.me c.args.slot (body.Accepted c.args.proposal) ∷ []) c.args.seen_round (Answered (kept_as.Accepted c.args.slot a))) (let e : c.in_ok-kept.kept ≡ c.args.proposal = search (rules, c.in_ok-kept.ensures) in e) it)))
    c.sending.ensures
