use Rattle.std.proofs.Common.{[], refl}
use Rattle.joined_histories.proofs.Joining.{joined_to_nothing}
use Rattle.joined_histories.proofs.laws.nothing_precedes_the_start.Goals as goal

pub returns-clause-precedes : goal.returns-clause-precedes
returns-clause-precedes c = λ config. record { config_is = refl; recovered = []; reached = (refl, refl, refl) }

pub returns-clause-joined : goal.returns-clause-joined
returns-clause-joined c = joined_to_nothing
