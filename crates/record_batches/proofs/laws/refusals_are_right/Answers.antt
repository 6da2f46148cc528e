use Rattle.record_batches.proofs.Faults.{memory_of_batches, none_of_batches}
use Rattle.record_batches.proofs.laws.refusals_are_right.Goals as goal

pub returns-clause-laid : goal.returns-clause-laid
returns-clause-laid c = none_of_batches c.batches_are_one.ensures.apart

pub returns-clause-memory : goal.returns-clause-memory
returns-clause-memory c = memory_of_batches
