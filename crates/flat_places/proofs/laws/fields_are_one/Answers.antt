use Rattle.flat_places.proofs.Fields.{table_same, field_same}
use Rattle.flat_places.proofs.laws.fields_are_one.Goals as goal

pub returns-clause-table : goal.returns-clause-table
returns-clause-table c = table_same

pub returns-clause-field : goal.returns-clause-field
returns-clause-field c = field_same
