use Rattle.std.proofs.Common.{◌+◌, arith}
use Rattle.batch_reading.proofs.Spanning.{starts_to}
use Rattle.batch_reading.proofs.one_run.run_lists.Goals as goal

pub overflow_sub-inside : goal.overflow_sub-inside
overflow_sub-inside c =
    let up =
    starts_to c.args.offsets.now c.requires.offsets.0 c.requires.offsets.1 c.requires.offsets.2 c.args.run.start
    (c.args.run.start + c.args.run.count) (omega arith) (omega (arith, c.requires.offsets.3)) in
    omega (arith, up, c.start_at-start.ensures, c.start_at-end.ensures)

pub overflow_sub-end : goal.overflow_sub-end
overflow_sub-end c =
    let up =
    starts_to c.args.offsets.now c.requires.offsets.0 c.requires.offsets.1 c.requires.offsets.2 c.args.run.start
    (c.args.run.start + c.args.run.count) (omega arith) (omega (arith, c.requires.offsets.3)) in
    omega (arith, up, c.start_at-start.ensures, c.start_at-end.ensures)
