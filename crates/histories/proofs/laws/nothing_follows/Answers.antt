use Rattle.std.proofs.Common.{[], refl}
use Rattle.histories.specs.Following.{at_first}
use Rattle.histories.proofs.laws.nothing_follows.Goals as goal

pub returns : goal.returns
returns c = λ config. record { recovered = []; seats = at_first; reached = (refl, refl, refl) }
