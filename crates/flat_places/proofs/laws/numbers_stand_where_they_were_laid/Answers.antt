use Rattle.flat_places.proofs.Numbers.{uint_laid}
use Rattle.flat_places.proofs.laws.numbers_stand_where_they_were_laid.Goals as goal

pub returns : goal.returns
returns c = uint_laid
