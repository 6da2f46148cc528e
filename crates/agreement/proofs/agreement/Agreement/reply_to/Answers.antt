use Rattle.std.proofs.Common.{IfOk, sym, subst}
use Rattle.ballots.specs.declared.message.Body.{Body}
use Rattle.agreement.specs.Step.{StepIsDue}
use Rattle.agreement.proofs.Parts as parts
use Rattle.agreement.proofs.agreement.Agreement.reply_to.Goals as goal

pub returns-in-Prepare-clause-gives : goal.returns-in-Prepare-clause-gives
returns-in-Prepare-clause-gives c =
    subst (λ (b : Body). IfOk c.reply_to_prepare.result (StepIsDue c.args.self.now c.args.seen_round c.args.sender c.args.slot b)) (sym c.in-Prepare.is)
    (parts.map_ok _ _ c.reply_to_prepare.result (λ step gives. gives c.args.sender) c.reply_to_prepare.ensures.gives)

pub returns-in-Nack-clause-gives : goal.returns-in-Nack-clause-gives
returns-in-Nack-clause-gives c =
    subst (λ (b : Body). StepIsDue c.args.self.now c.args.seen_round c.args.sender c.args.slot b c.reply_to_nack.result) (sym c.in-Nack.is)
    (c.reply_to_nack.ensures.gives c.args.sender c.in-Nack.promised)

pub returns-in-Accept-clause-gives : goal.returns-in-Accept-clause-gives
returns-in-Accept-clause-gives c =
    subst (λ (b : Body). IfOk c.reply_to_accept.result (StepIsDue c.args.self.now c.args.seen_round c.args.sender c.args.slot b)) (sym c.in-Accept.is)
    (parts.map_ok _ _ c.reply_to_accept.result (λ step gives. gives c.args.sender) c.reply_to_accept.ensures.gives)

pub returns-in-Ask-clause-gives : goal.returns-in-Ask-clause-gives
returns-in-Ask-clause-gives c =
    subst (λ (b : Body). IfOk c.reply_to_ask.result (StepIsDue c.args.self.now c.args.seen_round c.args.sender c.args.slot b)) (sym c.in-Ask.is)
    (parts.map_ok _ _ c.reply_to_ask.result (λ step gives. gives c.args.sender) c.reply_to_ask.ensures.gives)

pub returns-in-Decided-clause-gives : goal.returns-in-Decided-clause-gives
returns-in-Decided-clause-gives c =
    subst (λ (b : Body). IfOk c.handle_decided.result (StepIsDue c.args.self.now c.args.seen_round c.args.sender c.args.slot b)) (sym c.in-Decided.is)
    (parts.map_ok _ _ c.handle_decided.result (λ step gives. gives c.args.sender) c.handle_decided.ensures.gives)
