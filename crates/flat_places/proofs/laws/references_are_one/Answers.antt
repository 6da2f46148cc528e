use Rattle.flat_places.proofs.Numbers.{reference_same}
use Rattle.flat_places.proofs.laws.references_are_one.Goals as goal

pub returns : goal.returns
returns c = reference_same
