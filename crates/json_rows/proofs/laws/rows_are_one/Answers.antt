use Rattle.json_rows.proofs.OneRow.{values_one, rows_one}
use Rattle.json_rows.proofs.laws.rows_are_one.Goals as goal

pub returns-clause-values : goal.returns-clause-values
returns-clause-values c = values_one

pub returns-clause-rows : goal.returns-clause-rows
returns-clause-rows c = rows_one
