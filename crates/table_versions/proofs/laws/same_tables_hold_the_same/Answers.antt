use Rattle.table_versions.proofs.States.{same_taken}
use Rattle.table_versions.proofs.laws.same_tables_hold_the_same.Goals as goal

pub returns : goal.returns
returns c = same_taken
