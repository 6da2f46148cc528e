use Rattle.batch_lengths.proofs.Whole.{null_counted_run, null_of}
use Rattle.batch_lengths.proofs.run.count_run.Goals as goal
use Rattle.std.proofs.Common.{◌∙◌, sym}
use Rattle.batch_lengths.specs.Along.{run_spots}
use Rattle.batch_lengths.specs.Counted.{has_null}

pub returns : goal.returns
returns c =
    null_counted_run c.args.source.now c.args.start c.args.count
    (null_of c.is_whole.result (has_null c.args.source.now.validity.now (run_spots c.args.start c.args.count)) c.is_whole.ensures c.if-is_whole.false)
    (sym c.has_offsets.ensures ∙ c.if-has_offsets.false)
