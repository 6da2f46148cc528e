use Rattle.std.proofs.Common.{◌+◌, ◌<◌, ◌^◌, map, drop, length}
use Rattle.batch_types.specs.Canonical.{body_with}
use Rattle.record_batches.specs.Adds.{Adds}
use Rattle.record_batches.specs.Parts.{buffers_alone}
use Rattle.record_batches.specs.declared.head.HeadWriter.{HeadWriter}
use Rattle.record_batches.proofs.head.HeadWriter.put_buffers.Given as goal

abbrev pub invariant-loop-bytes : goal.invariant-loop-bytes
invariant-loop-bytes l = record {
  added : (after : HeadWriter) → Adds l.self after (buffers_alone (map (λ bytes. bytes.now) (drop l.bytes-index l.buffers)))
      → Adds l.fn.self after (buffers_alone (map (λ bytes. bytes.now) l.buffers));
  short : l.self.end + length (body_with (map (λ bytes. bytes.now) (drop l.bytes-index l.buffers))) < 2 ^ 63;
}
