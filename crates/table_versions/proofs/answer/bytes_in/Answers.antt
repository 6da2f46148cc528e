use Rattle.std.proofs.Common.{◌+◌, ap, take, length, length-append, arith}
use Rattle.std.specs.List.{concat}
use Rattle.table_versions.proofs.Frames.{more_bytes, fewer_bytes, fits_64}
use Rattle.table_versions.proofs.answer.bytes_in.Goals as goal

pub overflow_add-count : goal.overflow_add-count
overflow_add-count c =
    let more = more_bytes c.args.frames.now c.loop-frame.frame-index c.frame-item.result c.loop-frame-test.true c.frame-item.is in
    fits_64 (c.loop-frame.count + c.len-count.result)
    (omega (
      arith,
      c.requires,
      c.loop-frame.invariant,
      c.len-count.ensures.value,
      ap length more,
      length-append (concat (take c.loop-frame.frame-index c.args.frames.now)) c.frame-item.result,
      fewer_bytes c.args.frames.now (c.loop-frame.frame-index + 1),
    ))

pub loop-frame-preserved : goal.loop-frame-preserved
loop-frame-preserved c =
    let more = more_bytes c.args.frames.now c.loop-frame.frame-index c.frame-item.result c.loop-frame-test.true c.frame-item.is in
    omega (
      arith,
      c.loop-frame.invariant,
      c.len-count.ensures.value,
      ap length more,
      length-append (concat (take c.loop-frame.frame-index c.args.frames.now)) c.frame-item.result,
    )
