use Rattle.flat_places.proofs.Longer.{uint_shorter}
use Rattle.flat_places.proofs.laws.shorter_texts_show_the_same_numbers.Goals as goal

pub returns : goal.returns
returns c = uint_shorter
