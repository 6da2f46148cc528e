use Rattle.std.proofs.Common.{◌+◌, ◌≤◌, arith}
use Rattle.batch_types.specs.Placed.{start_of}
use Rattle.batch_lengths.proofs.Whole.{starts_to}
use Rattle.batch_lengths.proofs.run.span_of.Goals as goal

pub overflow_sub-result : goal.overflow_sub-result
overflow_sub-result c =
    let up : start_of 4 c.args.offsets.now c.args.start ≤ start_of 4 c.args.offsets.now (c.args.start + c.args.count) =
    starts_to c.args.offsets.now (c.args.start + c.args.count) c.requires.reach c.args.start (c.args.start + c.args.count) (omega arith) (omega arith) in
    omega (arith, up, c.start_at.ensures, c.start_at-2.ensures)

pub returns : goal.returns
returns c =
    let up : start_of 4 c.args.offsets.now c.args.start ≤ start_of 4 c.args.offsets.now (c.args.start + c.args.count) =
    starts_to c.args.offsets.now (c.args.start + c.args.count) c.requires.reach c.args.start (c.args.start + c.args.count) (omega arith) (omega arith) in
    omega (arith, up, c.start_at.ensures, c.start_at-2.ensures)
