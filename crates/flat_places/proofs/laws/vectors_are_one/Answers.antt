use Rattle.flat_places.proofs.Vectors.{vector_same}
use Rattle.flat_places.proofs.laws.vectors_are_one.Goals as goal

pub returns : goal.returns
returns c = vector_same
