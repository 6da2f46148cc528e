use Rattle.std.proofs.Common.{sym, subst}
use Rattle.batch_lengths.specs.Counted.{IsCounted}
use Rattle.batch_lengths.proofs.Marking.{run_marked}
use Rattle.batch_lengths.proofs.marked.count_marks.Goals as goal

pub returns-then-marks : goal.returns-then-marks
returns-then-marks c =
    subst (λ l. IsCounted c.args.source.now l c.count_run.result) (sym (run_marked c.args.marks.now c.if-marks.true)) c.count_run.ensures
