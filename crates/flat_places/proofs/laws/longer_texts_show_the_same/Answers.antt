use Rattle.flat_places.proofs.Longer.{uint_longer, reference_longer, field_longer, vector_longer, text_longer}
use Rattle.flat_places.proofs.laws.longer_texts_show_the_same.Goals as goal

pub returns-clause-number : goal.returns-clause-number
returns-clause-number c = uint_longer

pub returns-clause-reference : goal.returns-clause-reference
returns-clause-reference c = reference_longer

pub returns-clause-field : goal.returns-clause-field
returns-clause-field c = field_longer

pub returns-clause-vector : goal.returns-clause-vector
returns-clause-vector c = vector_longer

pub returns-clause-string : goal.returns-clause-string
returns-clause-string c = text_longer
