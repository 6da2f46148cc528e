use Rattle.table_versions.proofs.Naming.{named_are_tables}
use Rattle.table_versions.proofs.laws.tables_have_effective_uploads.Goals as goal

pub returns : goal.returns
returns c = named_are_tables
