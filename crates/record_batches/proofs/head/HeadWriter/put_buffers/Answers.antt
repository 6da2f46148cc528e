use Rattle.std.proofs.Common.{refl}
use Rattle.record_batches.proofs.Adding.{buffers_next, buffers_end, buffer_short, buffers_short}
use Rattle.record_batches.proofs.head.HeadWriter.put_buffers.Goals as goal

pub put_buffer-requires : goal.put_buffer-requires
put_buffer-requires c = record {
  short =
      buffer_short c.args.buffers.now c.loop-bytes.bytes-index _ _ c.loop-bytes-test.true refl c.loop-bytes.self.end c.loop-bytes.invariant.short;
}

pub loop-bytes-preserved : goal.loop-bytes-preserved
loop-bytes-preserved c = record {
  added = λ after rest.
      c.loop-bytes.invariant.added after
      (buffers_next c.loop-bytes.self c.put_buffer.new.self after c.args.buffers.now c.loop-bytes.bytes-index _ _ c.loop-bytes-test.true refl
      c.in_ok-put_buffer.ensures rest);
  short =
      buffers_short c.args.buffers.now c.loop-bytes.bytes-index _ _ c.loop-bytes-test.true refl c.loop-bytes.self.end c.loop-bytes.invariant.short
      c.loop-bytes.self c.put_buffer.new.self refl c.in_ok-put_buffer.ensures;
}

pub returns : goal.returns
returns c =
    c.loop-bytes.invariant.added c.loop-bytes.self (buffers_end c.loop-bytes.self c.args.buffers.now c.loop-bytes.bytes-index c.loop-bytes-test.false)
