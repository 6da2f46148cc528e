use Rattle.std.proofs.Common.{◌++◌, subst}
use Rattle.lawful_histories.specs.Lawful.{IsLawful}
use Rattle.agreement_rules.specs.Views.{AgreementConfig}
use Rattle.joined_histories.specs.Joined.{joined}
use Rattle.joined_histories.proofs.laws.joined_replicas_agree.Goals as goal

pub returns-clause-lawful : goal.returns-clause-lawful
returns-clause-lawful c = λ config start seats before tail recovered precedes reaches.
    subst (λ (k : AgreementConfig). IsLawful k.members (before.sent ++ tail.sent)) precedes.config_is
    (c.replicas_agree.ensures.lawful (joined before tail) (c.joined_histories_follow.ensures.follows config start seats before tail recovered precedes reaches))

pub returns-clause-safe : goal.returns-clause-safe
returns-clause-safe c = λ config start seats before tail recovered precedes reaches.
    c.replicas_agree.ensures.safe (joined before tail) (c.joined_histories_follow.ensures.follows config start seats before tail recovered precedes reaches)
