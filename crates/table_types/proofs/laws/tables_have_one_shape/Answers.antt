use Rattle.table_types.proofs.Shapes.{is_of_table, is_of_shape}
use Rattle.table_types.proofs.laws.tables_have_one_shape.Goals as goal

pub returns-clause-table : goal.returns-clause-table
returns-clause-table c = is_of_table

pub returns-clause-shape : goal.returns-clause-shape
returns-clause-shape c = is_of_shape
