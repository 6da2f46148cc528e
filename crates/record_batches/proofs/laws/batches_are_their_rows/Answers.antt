use Rattle.record_batches.proofs.Rows.{one_batch, read_back}
use Rattle.record_batches.proofs.laws.batches_are_their_rows.Goals as goal

pub returns-clause-columns : goal.returns-clause-columns
returns-clause-columns c = one_batch

pub returns-clause-read_back : goal.returns-clause-read_back
returns-clause-read_back c = read_back c.batches_are_one.ensures.batch
