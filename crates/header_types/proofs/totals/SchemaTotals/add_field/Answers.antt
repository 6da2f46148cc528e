use Rattle.std.proofs.Common.{rules}
use Rattle.header_types.proofs.totals.SchemaTotals.add_field.Goals as goal

pub returns-then-self-eq-MAX_FIELDS-clause-more : goal.returns-then-self-eq-MAX_FIELDS-clause-more
returns-then-self-eq-MAX_FIELDS-clause-more c = search rules steps 300000

pub returns-clause-added : goal.returns-clause-added
returns-clause-added c = search rules steps 300000

pub returns-clause-within : goal.returns-clause-within
returns-clause-within c = search rules steps 300000

pub returns-clause-beyond : goal.returns-clause-beyond
returns-clause-beyond c = search rules steps 300000

pub returns-clause-more : goal.returns-clause-more
returns-clause-more c = search rules steps 300000
