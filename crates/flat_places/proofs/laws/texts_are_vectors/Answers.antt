use Rattle.flat_places.proofs.Vectors.{text_is_vector}
use Rattle.flat_places.proofs.laws.texts_are_vectors.Goals as goal

pub returns : goal.returns
returns c = text_is_vector
