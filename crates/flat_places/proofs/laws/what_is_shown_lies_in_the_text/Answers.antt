use Rattle.flat_places.proofs.Numbers.{uint_within}
use Rattle.flat_places.proofs.Fields.{table_within}
use Rattle.flat_places.proofs.Vectors.{vector_within, text_within}
use Rattle.flat_places.proofs.laws.what_is_shown_lies_in_the_text.Goals as goal

pub returns-clause-number : goal.returns-clause-number
returns-clause-number c = uint_within

pub returns-clause-reference : goal.returns-clause-reference
returns-clause-reference c = λ text place x shown. uint_within text place 4 shown.offset shown.shown

pub returns-clause-table : goal.returns-clause-table
returns-clause-table c = table_within

pub returns-clause-vector : goal.returns-clause-vector
returns-clause-vector c = vector_within

pub returns-clause-string : goal.returns-clause-string
returns-clause-string c = text_within
