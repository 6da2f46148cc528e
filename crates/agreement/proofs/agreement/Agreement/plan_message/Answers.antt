use Rattle.std.proofs.Common.{◌≡◌, ℕ, max, rules, subst}
use Rattle.agreement_rules.specs.Due.{round_in}
use Rattle.agreement.specs.Step.{StepIsDue}
use Rattle.agreement.proofs.Answering as answering
use Rattle.agreement.proofs.agreement.Agreement.plan_message.Goals as goal

pub returns-clause-gives : goal.returns-clause-gives
returns-clause-gives c =
    let seen : c.max-seen_round.result ≡ max c.args.self.now.seen_round (round_in c.args.message.body) = search rules steps 300000 in
    answering.message_gives c.args.self.now c.args.message c.in_ok-reply_to.field-0 (c.takes.ensures.0 c.if-not-takes.false)
    (subst (λ (n : ℕ). StepIsDue c.args.self.now n c.args.message.sender c.args.message.slot c.args.message.body c.in_ok-reply_to.field-0) seen c.in_ok-reply_to.ensures.gives)
