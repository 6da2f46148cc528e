use Rattle.batch_types.proofs.WorkedBatches.{miscounted, falling}
use Rattle.batch_types.proofs.WorkedFaults.{compressed, too_many_rows, too_many_values, node_count, buffer_count, body_range}
use Rattle.batch_types.proofs.WorkedFaults.{buffer_range, child_short, not_utf8}
use Rattle.batch_types.proofs.laws.worked_faults_are_told.Goals as goal

pub returns-clause-compressed : goal.returns-clause-compressed
returns-clause-compressed c = compressed

pub returns-clause-rows : goal.returns-clause-rows
returns-clause-rows c = too_many_rows

pub returns-clause-values : goal.returns-clause-values
returns-clause-values c = too_many_values

pub returns-clause-nodes : goal.returns-clause-nodes
returns-clause-nodes c = node_count

pub returns-clause-buffers : goal.returns-clause-buffers
returns-clause-buffers c = buffer_count

pub returns-clause-body : goal.returns-clause-body
returns-clause-body c = body_range

pub returns-clause-range : goal.returns-clause-range
returns-clause-range c = buffer_range

pub returns-clause-nulls : goal.returns-clause-nulls
returns-clause-nulls c = miscounted

pub returns-clause-offsets : goal.returns-clause-offsets
returns-clause-offsets c = falling

pub returns-clause-short : goal.returns-clause-short
returns-clause-short c = child_short

pub returns-clause-texts : goal.returns-clause-texts
returns-clause-texts c = not_utf8
