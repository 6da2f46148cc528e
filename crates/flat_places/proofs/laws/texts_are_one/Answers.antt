use Rattle.flat_places.proofs.Vectors.{text_same}
use Rattle.flat_places.proofs.laws.texts_are_one.Goals as goal

pub returns : goal.returns
returns c = text_same
