use Rattle.std.proofs.Common.{MatchOption, subst}
use Rattle.lawful_histories.specs.Lawful.{IsLawful}
use Rattle.run_breaches.specs.FirstBreach.{IsFirstUnlawful}
use Rattle.run_breaches.proofs.Found.{breach_is_there}
use Rattle.run_breaches.proofs.finding.first_breach_by_slot.Goals as goal

pub returns-in-Some-clause-lawful : goal.returns-in-Some-clause-lawful
returns-in-Some-clause-lawful c =
    let n = c.args.members in
    let sent = c.args.sent.now in
    let first = subst (λ o. MatchOption o (IsLawful n sent) (λ place. IsFirstUnlawful n sent place)) c.in-Some.is c.in_ok-place.ensures.place in
    breach_is_there n sent c.beginnings_are_lawful.ensures.beginnings c.in-Some.place c.breach_at.result first c.breach_at.ensures
