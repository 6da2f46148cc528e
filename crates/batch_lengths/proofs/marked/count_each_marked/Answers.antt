use Rattle.std.proofs.Common.{◌+◌, arith}
use Rattle.batch_lengths.proofs.Between.{reads_less}
use Rattle.batch_lengths.proofs.Marking.{marked_next, marked_fits}
use Rattle.batch_lengths.proofs.marked.count_each_marked.Goals as goal

pub count_marked-requires : goal.count_marked-requires
count_marked-requires c =
    reads_less c.args.source.now (c.args.marks.now.start + c.loop-number.number + 1) (c.args.marks.now.start + c.args.marks.now.count) (omega arith) c.requires

pub with-counted-requires : goal.with-counted-requires
with-counted-requires c =
    marked_fits c.args.source.now c.args.marks.now c.loop-number.number (omega arith) c.requires c.loop-number.counted c.count_marked.result
    c.loop-number.invariant c.count_marked.ensures

pub loop-number-preserved : goal.loop-number-preserved
loop-number-preserved c =
    marked_next c.args.source.now c.args.marks.now c.loop-number.number (omega arith) c.requires c.loop-number.counted c.count_marked.result
    c.loop-number.invariant c.count_marked.ensures c.with-counted.result c.with-counted.ensures.nulls c.with-counted.ensures.lengths
