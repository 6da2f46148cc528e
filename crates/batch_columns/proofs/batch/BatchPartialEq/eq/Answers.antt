use Rattle.batch_columns.proofs.Comparing.{test_is_same_batches}
use Rattle.batch_columns.proofs.batch.BatchPartialEq.eq.Goals as goal

pub returns-then-self-other-clause-gives : goal.returns-then-self-other-clause-gives
returns-then-self-other-clause-gives c =
    test_is_same_batches c.args.self.now c.args.other.now c.deref.result.now c.deref-then-self-other.result.now c.are_equal.result
    c.if-self-other.true c.deref.ensures.value c.deref-then-self-other.ensures.value c.are_equal.ensures
