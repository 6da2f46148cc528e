use Rattle.flat_places.proofs.Numbers.{uint_not_cut, reference_not_cut}
use Rattle.flat_places.proofs.Fields.{field_not_cut}
use Rattle.flat_places.proofs.Vectors.{vector_not_cut, text_not_cut}
use Rattle.flat_places.proofs.laws.faults_show_nothing.Goals as goal

pub returns-clause-number : goal.returns-clause-number
returns-clause-number c = uint_not_cut

pub returns-clause-reference : goal.returns-clause-reference
returns-clause-reference c = reference_not_cut

pub returns-clause-field : goal.returns-clause-field
returns-clause-field c = field_not_cut

pub returns-clause-vector : goal.returns-clause-vector
returns-clause-vector c = vector_not_cut

pub returns-clause-string : goal.returns-clause-string
returns-clause-string c = text_not_cut
