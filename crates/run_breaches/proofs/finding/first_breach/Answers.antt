use Rattle.std.proofs.Common.{◌≡◌, ◌+◌, ◌<◌, true, false, MatchOption, List, take, length, refl, subst, arith}
use Rattle.std.proofs.lemmas.List.{take_all}
use Rattle.ballots.specs.declared.message.Message.{Message}
use Rattle.lawful_histories.specs.Lawful.{IsLawful}
use Rattle.run_breaches.specs.FirstBreach.{IsFirstBreach}
use Rattle.run_breaches.proofs.finding.first_breach.Goals as goal

pub loop-place-init : goal.loop-place-init
loop-place-init c = c.beginnings_are_lawful.ensures.nothing c.args.members

pub breach_at-requires-clause-before : goal.breach_at-requires-clause-before
breach_at-requires-clause-before c = c.loop-place.invariant

pub returns-in-Some-clause-lawful : goal.returns-in-Some-clause-lawful
returns-in-Some-clause-lawful c =
    let sent : List Message = c.args.sent.now in
    let first : IsFirstBreach c.args.members sent c.in-Some.breach =
    subst (λ o. MatchOption o (IsLawful c.args.members (take (c.loop-place.place + 1) sent)) (λ breach. IsFirstBreach c.args.members sent breach)) c.in-Some.is c.breach_at.ensures in (
      (λ e. absurd (let no : true ≡ false = e in cc)),
      (λ lawful. absurd (first.breaks (c.beginnings_are_lawful.ensures.beginnings c.args.members sent ((c.in-Some.breach).place + 1) (let lt : (c.in-Some.breach).place < length sent = first.within in omega (arith, lt)) lawful))),
    )

pub loop-place-preserved : goal.loop-place-preserved
loop-place-preserved c =
    let sent : List Message = c.args.sent.now in
    subst (λ o. MatchOption o (IsLawful c.args.members (take (c.loop-place.place + 1) sent)) (λ breach. IsFirstBreach c.args.members sent breach)) c.in_default.is c.breach_at.ensures

pub returns-clause-lawful : goal.returns-clause-lawful
returns-clause-lawful c =
    let sent : List Message = c.args.sent.now in
    let whole : IsLawful c.args.members sent = subst (IsLawful c.args.members) (take_all c.loop-place.place sent c.loop-place-test.false) c.loop-place.invariant in
    ((λ e. whole), (λ lawful. refl))
