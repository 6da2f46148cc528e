use Rattle.std.proofs.Common.{get_or, arith}
use Rattle.batch_types.specs.LaysOut.{values_limit}
use Rattle.batch_reading.specs.declared.selection.Run.{Run}
use Rattle.batch_reading.proofs.Running.{run_there}
use Rattle.batch_reading.proofs.Sizing.{run_within}
use Rattle.batch_reading.proofs.inside.scaled_runs.Goals as goal

pub overflow_mul-size : goal.overflow_mul-size
overflow_mul-size c =
    let run : Run = get_or c.args.runs.now c.loop-run.run-index (record { start = 0; count = 0 }) in
    let there = run_there c.args.runs.now c.loop-run.run-index 0 c.requires.0 (record { start = 0; count = 0 }) c.requires.1 c.loop-run-test.true in
    omega (arith, run_within c.args.size run.start c.requires.0 values_limit (omega (arith, there.1)) c.requires.2)

pub overflow_mul-size-in-loop-run : goal.overflow_mul-size-in-loop-run
overflow_mul-size-in-loop-run c =
    let run : Run = get_or c.args.runs.now c.loop-run.run-index (record { start = 0; count = 0 }) in
    let there = run_there c.args.runs.now c.loop-run.run-index 0 c.requires.0 (record { start = 0; count = 0 }) c.requires.1 c.loop-run-test.true in
    omega (arith, run_within c.args.size run.count c.requires.0 values_limit (omega (arith, there.1)) c.requires.2)
