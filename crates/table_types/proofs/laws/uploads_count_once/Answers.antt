use Rattle.table_types.proofs.Counting.{ids_differ, stands_at}
use Rattle.table_types.proofs.laws.uploads_count_once.Goals as goal

pub returns-clause-apart : goal.returns-clause-apart
returns-clause-apart c = ids_differ

pub returns-clause-placed : goal.returns-clause-placed
returns-clause-placed c uploads upload none number = stands_at uploads upload none number
