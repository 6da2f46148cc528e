use Rattle.std.proofs.Common.{inr}
use Rattle.std.proofs.lemmas.Result.{err_from_is_err_and}
use Rattle.header_types.specs.HeaderViews.{head_of}
use Rattle.call_reading.proofs.upload_builder.batch_in.Goals as goal

pub returns-in_err-batch-clause-fault : goal.returns-in_err-batch-clause-fault
returns-in_err-batch-clause-fault c =
    let p = err_from_is_err_and c.from_residual-in_err-batch.result c.from_residual-in_err-batch.ensures.1 in
    rw (p.1, p.2) (inr (head_of c.in_ok-head.head, c.in_ok-head.ensures.shown, c.in_err-batch.ensures.fault))
