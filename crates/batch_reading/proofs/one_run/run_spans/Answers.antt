use Rattle.std.proofs.Common.{◌+◌, length, arith}
use Rattle.batch_reading.proofs.OneRun.{run_reach}
use Rattle.batch_reading.proofs.Spanning.{starts_to}
use Rattle.batch_reading.proofs.one_run.run_spans.Goals as goal

pub part-requires : goal.part-requires
part-requires c =
    let limit = c.requires.offsets.0 in
    let start = c.args.run.start in
    let up =
    starts_to c.args.offsets.now limit (length c.args.bytes.now) c.requires.offsets.1 start (start + c.args.run.count)
    (omega arith) (omega (arith, c.requires.offsets.2)) in
    let reach = run_reach c.args.offsets.now limit (length c.args.bytes.now) c.requires.offsets.1 start c.args.run.count c.requires.some c.requires.offsets.2 in (
      omega (arith, up, c.start_at-start.ensures, c.start_at-end.ensures),
      omega (arith, reach, c.start_at-end.ensures),
    )
