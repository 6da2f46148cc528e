use Rattle.std.proofs.Common.{refl}
use Rattle.batch_types.proofs.laws.worked_bodies_are_canonical.Goals as goal

pub returns-clause-int8 : goal.returns-clause-int8
returns-clause-int8 c = (refl, refl)

pub returns-clause-texts : goal.returns-clause-texts
returns-clause-texts c = (refl, refl)

pub returns-clause-bool : goal.returns-clause-bool
returns-clause-bool c = (refl, refl)

pub returns-clause-pairs : goal.returns-clause-pairs
returns-clause-pairs c = (refl, refl)

pub returns-clause-points : goal.returns-clause-points
returns-clause-points c = (refl, refl)

pub returns-clause-no_texts : goal.returns-clause-no_texts
returns-clause-no_texts c = (refl, refl)

pub returns-clause-nulls : goal.returns-clause-nulls
returns-clause-nulls c = (refl, refl)
