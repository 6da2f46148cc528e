use Rattle.run_breaches.proofs.Told.{breaks_one}
use Rattle.run_breaches.proofs.laws.breaches_are_one.Goals as goal

pub returns : goal.returns
returns c = λ n before m x y f g. breaks_one n m.slot before m.sender m.body x y f g
