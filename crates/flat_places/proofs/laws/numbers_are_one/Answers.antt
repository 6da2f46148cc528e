use Rattle.flat_places.proofs.Numbers.{uint_same, int_same}
use Rattle.flat_places.proofs.laws.numbers_are_one.Goals as goal

pub returns-clause-number : goal.returns-clause-number
returns-clause-number c = uint_same

pub returns-clause-signed : goal.returns-clause-signed
returns-clause-signed c = int_same
