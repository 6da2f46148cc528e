use Rattle.std.proofs.Common.{◌≡◌, ℕ, List, length, take, refl, sym, subst, arith}
use Rattle.std.proofs.lemmas.List.{length-take-le}
use Rattle.ballots.specs.declared.message.Message.{Message}
use Rattle.run_breaches.specs.Highest.{Turns, IsBestOf}
use Rattle.run_breaches.proofs.Sets.{one_more}
use Rattle.run_breaches.proofs.Reported.{best_more}
use Rattle.run_breaches.proofs.searches.highest_report.Goals as goal

pub loop-place-preserved : goal.loop-place-preserved
loop-place-preserved c =
    let before : List Message = c.args.before.now in
    let k : ℕ = c.loop-place.place in
    let m : Message = c.index-before-place.result in
    let here : k ≡ length (take k before) = sym (length-take-le k before (omega (arith, c.loop-place-test.true))) in
    let turns : Turns c.loop-place.best (length (take k before)) c.reported_by.result c.better_of-best.result =
    subst (λ (i : ℕ). Turns c.loop-place.best i c.reported_by.result c.better_of-best.result) here c.better_of-best.ensures in
    subst (λ (l : List Message). IsBestOf c.args.members c.args.slot l c.args.ballot c.better_of-best.result) (one_more before k m c.loop-place-test.true c.index-before-place.is)
    (best_more c.args.members c.args.slot c.args.ballot (take k before) m c.reported_by.result c.reported_by.ensures c.loop-place.best c.better_of-best.result c.reported_by.result refl turns c.loop-place.invariant)
