use Rattle.table_types.proofs.Bare.{one_shape, no_more_apart}
use Rattle.table_types.proofs.laws.shapes_are_without_metadata.Goals as goal

pub returns-clause-same : goal.returns-clause-same
returns-clause-same c = one_shape

pub returns-clause-apart : goal.returns-clause-apart
returns-clause-apart c = no_more_apart c.written_headers_differ.ensures
