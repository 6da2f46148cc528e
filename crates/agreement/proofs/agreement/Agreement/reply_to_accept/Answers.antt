use Rattle.std.proofs.Common.{◌≡◌, Some, sym, subst, ◌∙◌}
use Rattle.acceptor.specs.AcceptorState.{promised_at}
use Rattle.agreement.specs.State.{AgreementState}
use Rattle.agreement.proofs.Answering as answering
use Rattle.agreement.proofs.Parts as parts
use Rattle.agreement.proofs.agreement.Agreement.reply_to_accept.Goals as goal

pub returns-in-Some-clause-gives : goal.returns-in-Some-clause-gives
returns-in-Some-clause-gives c =
    let is = subst (λ (s : AgreementState). promised_at s.acceptor c.args.slot ≡ Some c.in-Some.promised) c.self.view_is (sym c.promised.ensures ∙ c.in-Some.is) in
    parts.map_ok _ _ c.refuse.result
    (λ step it sender. answering.refusal_of_accept_gives c.args.self.now c.args.seen_round sender c.args.slot c.args.proposal c.in-Some.promised step is (c.is_below.ensures.0 c.if-is_below.true) it)
    c.refuse.ensures
