use Rattle.std.proofs.Common.{◌≡◌, true, false, Some, sym, subst, ◌∙◌}
use Rattle.ballots.specs.Ballot.{IsBelow}
use Rattle.ballots.proofs.CallerLemmas.{at_least_where_not_below}
use Rattle.acceptor.specs.AcceptorState.{promised_at}
use Rattle.agreement.specs.State.{AgreementState}
use Rattle.agreement.proofs.Answering as answering
use Rattle.agreement.proofs.Parts as parts
use Rattle.agreement.proofs.agreement.Agreement.reply_to_prepare.Goals as goal

pub returns-in-Some-clause-gives : goal.returns-in-Some-clause-gives
returns-in-Some-clause-gives c =
    let is = subst (λ (s : AgreementState). promised_at s.acceptor c.args.slot ≡ Some c.in-Some.promised) c.self.view_is (sym c.promised.ensures ∙ c.in-Some.is) in
    let not_below : IsBelow c.in-Some.promised c.args.ballot → ⊥ = λ below. let e : true ≡ false = sym (c.is_below.ensures.1 below) ∙ c.if-not-is_below.true in absurd cc in
    let at_least = (at_least_where_not_below c.args.ballot c.in-Some.promised).1 not_below in
    parts.map_ok _ _ c.refuse.result
    (λ step it sender. answering.refusal_of_prepare_gives c.args.self.now c.args.seen_round sender c.args.slot c.args.ballot c.in-Some.promised step is at_least it)
    c.refuse.ensures
