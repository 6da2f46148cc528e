use Rattle.std.proofs.Common.{refl}
use Rattle.histories.proofs.laws.nothing_reaches_the_start.Goals as goal

pub returns : goal.returns
returns c = λ config start. (refl, refl, refl)
