use Rattle.run_breaches.proofs.Found.{one_first_breach}
use Rattle.run_breaches.proofs.laws.first_breaches_are_one.Goals as goal

pub returns : goal.returns
returns c = λ n sent x y f g. one_first_breach n sent c.beginnings_are_lawful.ensures.beginnings c.breaches_are_one.ensures x y f g
