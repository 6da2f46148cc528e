use Rattle.lawful_histories.proofs.Slots.{sent_of_own, own_of_sent}
use Rattle.lawful_histories.proofs.judge.may_be_sent.Goals as goal

pub returns : goal.returns
returns c =
    let n = c.args.members in
    let before = c.args.before.now in
    let m = c.args.message.now in (
      (λ e. sent_of_own n before m (c.may_be_said.ensures.0 e)),
      (λ h. c.may_be_said.ensures.1 (own_of_sent n before m h)),
    )
