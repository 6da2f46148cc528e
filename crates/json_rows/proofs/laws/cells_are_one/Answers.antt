use Rattle.json_rows.proofs.One.{one_cell, one_row}
use Rattle.json_rows.proofs.laws.cells_are_one.Goals as goal

pub returns-clause-cells : goal.returns-clause-cells
returns-clause-cells c = one_cell

pub returns-clause-rows : goal.returns-clause-rows
returns-clause-rows c = one_row
