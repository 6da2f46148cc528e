use Rattle.table_types.proofs.Growing.{effective_grows, versions_grow}
use Rattle.table_types.proofs.Counting.{outcomes_stay}
use Rattle.table_types.proofs.laws.tables_grow.Goals as goal

pub returns-clause-effective : goal.returns-clause-effective
returns-clause-effective c = effective_grows

pub returns-clause-versions : goal.returns-clause-versions
returns-clause-versions c = versions_grow

pub returns-clause-outcomes : goal.returns-clause-outcomes
returns-clause-outcomes c = outcomes_stay
