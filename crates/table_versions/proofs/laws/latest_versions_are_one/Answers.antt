use Rattle.table_versions.proofs.Same.{latest_say_same}
use Rattle.table_versions.proofs.laws.latest_versions_are_one.Goals as goal

pub returns : goal.returns
returns c = latest_say_same
