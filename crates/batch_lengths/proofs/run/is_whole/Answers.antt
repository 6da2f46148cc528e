use Rattle.std.proofs.Common.{◌∙◌, sym, ap, not}
use Rattle.batch_lengths.specs.Along.{run_spots}
use Rattle.batch_lengths.proofs.Whole.{null_by_none}
use Rattle.batch_lengths.proofs.run.is_whole.Goals as goal

pub returns-then-is_empty : goal.returns-then-is_empty
returns-then-is_empty c =
    c.if-is_empty.true
    ∙ sym (ap not (null_by_none c.args.validity.now (run_spots c.args.start c.args.count) (sym c.is_empty.ensures ∙ c.if-is_empty.true)))
