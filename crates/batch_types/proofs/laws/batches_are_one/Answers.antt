use Rattle.batch_types.proofs.Unique.{one_batch, one_fault, no_fault_of_a_batch}
use Rattle.batch_types.proofs.laws.batches_are_one.Goals as goal

pub returns-clause-batch : goal.returns-clause-batch
returns-clause-batch c = one_batch

pub returns-clause-fault : goal.returns-clause-fault
returns-clause-fault c = one_fault

pub returns-clause-apart : goal.returns-clause-apart
returns-clause-apart c = no_fault_of_a_batch
