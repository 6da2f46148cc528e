use Rattle.std.proofs.Common.{◌≡◌, ℕ, ◌<◌, ◌≤◌, List, [], length, get_or, take, sym, subst, ◌∙◌, arith}
use Rattle.std.proofs.lemmas.List.{get_or-take, length-take-le, take-take}
use Rattle.ballots.specs.declared.message.Message.{Message}
use Rattle.lawful_histories.specs.Lawful.{IsLawful}
use Rattle.lawful_histories.specs.Judging.{MayBeSent, AllMayBeSent}
use Rattle.lawful_histories.proofs.Judged.{lawful_from_judged, judged_from_lawful}
use Rattle.lawful_histories.proofs.laws.beginnings_are_lawful.Goals as goal

pub returns-clause-nothing : goal.returns-clause-nothing
returns-clause-nothing g = λ n. lawful_from_judged n [] (λ k d lt. absurd (omega (arith, lt)))

pub returns-clause-beginnings : goal.returns-clause-beginnings
returns-clause-beginnings g = λ n sent k le lawful. lawful_from_judged n (take k sent) (λ i d lt.
    let below : i < k = omega (arith, lt, length-take-le k sent le) in
    let follows = judged_from_lawful n sent lawful i d (omega (arith, below, le)) in
    subst (λ (m : Message). MayBeSent n (take i (take k sent)) m) (sym (get_or-take k sent i d below))
    (subst (λ (l : List Message). MayBeSent n l (get_or sent i d)) (sym (take-take i k sent (omega (arith, below)))) follows))
