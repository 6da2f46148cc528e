use Rattle.column_building.proofs.Refusing.{none_of_made, told_first, told_later}
use Rattle.column_building.proofs.laws.the_first_fault_is_told.Goals as goal

pub returns-clause-made : goal.returns-clause-made
returns-clause-made c = none_of_made

pub returns-clause-first : goal.returns-clause-first
returns-clause-first c = told_first

pub returns-clause-later : goal.returns-clause-later
returns-clause-later c = told_later
