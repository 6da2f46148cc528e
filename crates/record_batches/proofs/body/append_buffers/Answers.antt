use Rattle.std.proofs.Common.{refl}
use Rattle.record_batches.proofs.Adding.{appended_next, appended_end, at_error, grows_on}
use Rattle.record_batches.proofs.body.append_buffers.Goals as goal

pub loop-bytes-preserved : goal.loop-bytes-preserved
loop-bytes-preserved c = record {
  appended =
      appended_next c.args.buffers.now c.loop-bytes.bytes-index _ _ c.loop-bytes-test.true refl c.loop-bytes.text.items
      c.append_buffer.new.text.items _ c.in_ok-append_buffer.ensures.ok c.loop-bytes.invariant.appended;
  grows =
      grows_on c.args.text.now.items c.loop-bytes.text.items c.append_buffer.new.text.items c.loop-bytes.invariant.grows
      (_, c.in_ok-append_buffer.ensures.ok);
}

pub returns-clause-ok : goal.returns-clause-ok
returns-clause-ok c =
    appended_end c.args.buffers.now c.loop-bytes.bytes-index c.loop-bytes.text.items _ c.loop-bytes-test.false c.loop-bytes.invariant.appended

pub returns-in_err-append_buffer-clause-err : goal.returns-in_err-append_buffer-clause-err
returns-in_err-append_buffer-clause-err c =
    at_error c.from_residual.result
    (grows_on c.args.text.now.items c.loop-bytes.text.items c.append_buffer.new.text.items c.loop-bytes.invariant.grows
    c.in_err-append_buffer.ensures.err)
