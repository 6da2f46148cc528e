use Rattle.lawful_histories.proofs.Judged.{lawful_from_judged, judged_from_lawful}
use Rattle.lawful_histories.proofs.trace.are_lawful.Goals as goal

pub returns : goal.returns
returns c =
    let n = c.args.members in
    let sent = c.args.sent.now in (
      (λ e. lawful_from_judged n sent (c.all_may_be_sent.ensures.0 e)),
      (λ h. c.all_may_be_sent.ensures.1 (judged_from_lawful n sent h)),
    )
